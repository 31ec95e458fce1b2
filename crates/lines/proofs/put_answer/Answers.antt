-- The lines of the states follow the first line, and all have room. Assumes nothing.
use Rattle.kernel.specs.Slices.{pair, number_at}
use native.Mathlib.Omega.{arith}
use Rattle.decimal.proofs.Writing.{then}
use Rattle.lines.proofs.LineLaws.{header_size, answer_size}
use Rattle.lines.proofs.put_answer.Goals as goal

pub put_header-at-requires : goal.put_header-at-requires
put_header-at-requires c =
    let a = c.args in
    let size = answer_size a.order a.bound (number_at (pair a.wm.now a.we.now)) (number_at (pair a.sm.now a.se.now)) in
    omega (arith, header_size a.order a.bound, size)

pub returns : goal.returns
returns c = then c.put_header-at.ensures c.put_states.ensures
