-- The line of a refusal has room. Assumes nothing.
use native.Mathlib.Omega.{arith}
use Rattle.refused.proofs.RefusedLaws.{refused_size, refused_length}
use borrow.Author.Rules.{rules}
use Rattle.refused.proofs.put_refusal.Goals as goal

pub put_refused-requires : goal.put_refused-requires
put_refused-requires c =
    let line = c.listed-line.result in
    omega (arith, refused_size line, refused_length line (search rules) (search rules) (search rules))

pub returns : goal.returns
returns c =
    let line = c.listed-line.result in
    let put = c.put_refused.ensures in
    rw (← c.listed-line.ensures.line_is) (put, omega (arith, put.next_is, refused_length line (search rules) (search rules) (search rules)))
