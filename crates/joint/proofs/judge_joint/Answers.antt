-- 15, then 5. Assumes nothing.
use mathlib.Core.Path.{sym, ◌∙◌}
use native.Mathlib.Omega.{arith}
use Rattle.joined.proofs.Verdicts.{tried_order, tried_room, tried_no_room}
use Rattle.joint.proofs.judge_joint.Goals as goal

pub returns-then-a-b-gt64 : goal.returns-then-a-b-gt64
returns-then-a-b-gt64 c = tried_order _ _ _ _ _ (omega (arith, c.if-a-b-gt64.true))

pub returns-then-room_for : goal.returns-then-room_for
returns-then-room_for c = (tried_room _ _ _ _ _ (omega (arith, c.if-a-b-gt64.false)) (omega arith) (sym c.room_for.ensures ∙ c.if-room_for.true))

pub returns : goal.returns
returns c = (tried_no_room _ _ _ _ _ (omega (arith, c.if-a-b-gt64.false)) (omega arith) (sym c.room_for.ensures ∙ c.if-room_for.false))
