-- `form_in`: the form that a first byte tells. Assumes nothing.
use borrow.Author.Tests.{lt-ltb, le-ltb}
use Rattle.layout.specs.Forms.{form_in}
use Rattle.layout.proofs.form_in.Goals as goal

pub returns-then-first-gt128 : goal.returns-then-first-gt128
unfolding form_in
returns-then-first-gt128 c = rw (lt-ltb 128 _ c.if-first-gt128.true)

pub returns-else-first-gt128 : goal.returns-else-first-gt128
unfolding form_in
returns-else-first-gt128 c = rw (le-ltb 128 _ c.if-first-gt128.false)
