-- The lines of the states from i on are what is left to put. Assumes nothing.
use native.Mathlib.Omega.{arith}
use Rattle.lines.proofs.LineLaws.{state_size, rest_room, rest_next, rest_end}
use Rattle.lines.proofs.put_states.Goals as goal

pub put_state-p-requires : goal.put_state-p-requires
put_state-p-requires c =
    let room = rest_room _ _ _ _ _ c.loop-i.invariant c.loop-i-test.true c.load-weight.ensures c.load-share.ensures (omega arith) in
    omega (arith, room, state_size c.loop-i.i c.load-weight.result c.load-share.result)

pub loop-i-preserved : goal.loop-i-preserved
loop-i-preserved c = rest_next _ _ _ _ _ c.loop-i.invariant c.loop-i-test.true c.load-weight.ensures c.load-share.ensures c.put_state-p.ensures

pub returns : goal.returns
returns c = rest_end _ _ _ _ _ c.loop-i.invariant c.loop-i-test.false
