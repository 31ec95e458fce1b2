use mathlib.Core.Path.{sym, ◌∙◌}
use borrow.Author.Tests.{lt-ltb, le-ltb}
use Rattle.basics.proofs.BoolLaws.{and_no_first, and_decides}
use Rattle.chain.proofs.order_sound.Goals as goal

pub returns-then-n-gt0 : goal.returns-then-n-gt0
returns-then-n-gt0 c = sym (and_decides _ _ (lt-ltb _ _ c.if-n-gt0.true))

pub returns-else-n-gt0 : goal.returns-else-n-gt0
returns-else-n-gt0 c = let e = le-ltb _ _ c.if-n-gt0.false in e ∙ sym (and_no_first _ _ e)
