-- `order_in`: the order that a first byte tells. Assumes nothing.
use native.Mathlib.Omega.{arith}
use borrow.Author.Tests.{lt-ltb, le-ltb}
use Rattle.layout.specs.Forms.{form_in, order_in}
use Rattle.layout.proofs.order_in.Goals as goal

pub returns-then-first-gt128 : goal.returns-then-first-gt128
unfolding order_in form_in
returns-then-first-gt128 c = (rw (lt-ltb 128 _ c.if-first-gt128.true), omega arith)

pub returns-else-first-gt128 : goal.returns-else-first-gt128
unfolding order_in form_in
returns-else-first-gt128 c = (rw (le-ltb 128 _ c.if-first-gt128.false) (omega arith), omega arith)
