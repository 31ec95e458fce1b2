-- The three tests of refusal 5.
use Prim.Native.Nat.{◌<◌}
use mathlib.Core.Path.{◌∙◌}
use native.Mathlib.Omega.{arith}
use Rattle.std.proofs.Common.{inl, inr}
use borrow.Author.Tests.{lt-leb, le-ltb}
use Rattle.file_rules.proofs.Answers.{room_all, room_no_columns, room_no_starts}
use Rattle.checking.proofs.room_for.Goals as goal
use Rattle.checking.proofs.room_for.Goals.{then-n-starts, else-n-starts}

pub returns-then-e-columns : goal.returns-then-e-columns
returns-then-e-columns c = room_all _ _ _ _ _ c.if-e-columns.true.0 c.if-e-columns.true.1

pub returns-else-e-columns : goal.returns-else-e-columns
returns-else-e-columns c = elim c.if-n-starts.branch [
  | then-n-starts w ↦
      let l : c.args.columns < c.args.e = elim c.if-e-columns.either [ inl p ↦ p.1 | inr l ↦ absurd (omega arith) ] in
      w.t-7-is ∙ lt-leb _ _ l ∙ room_no_columns _ _ _ _ _ w.if-n-starts.true l
  | else-n-starts w ↦ w.t-7-is ∙ le-ltb _ _ w.if-n-starts.false ∙ room_no_starts _ _ _ _ _ w.if-n-starts.false
]
