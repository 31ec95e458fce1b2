use Rattle.basics.proofs.BoolLaws.{or_decides, or_yes_first}
use mathlib.Core.Bool.{not}
use mathlib.Core.Path.{sym, ap, ◌∙◌}
use Rattle.reach.proofs.comes_back.Goals as goal

pub returns-then-test_bit : goal.returns-then-test_bit
returns-then-test_bit c = c.test_bit-then-test_bit.ensures ∙ sym (or_decides _ _ (ap not (sym c.test_bit.ensures ∙ c.if-test_bit.true)))

pub returns-else-test_bit : goal.returns-else-test_bit
returns-else-test_bit c = sym (or_yes_first _ _ (ap not (sym c.test_bit.ensures ∙ c.if-test_bit.false)))
