-- Each turn puts the line of one state.
use Rattle.kernel.specs.Slices.{pair, number_at}
use Rattle.lines.proofs.LineLaws.{Rest}
use Rattle.lines.proofs.put_states.Given as goal

abbrev pub invariant-loop-i : goal.invariant-loop-i
invariant-loop-i l = Rest (number_at (pair l.wm l.we)) (number_at (pair l.sm l.se)) l.n l.at l.fn.out l.out l.p l.i
