use mathlib.Core.Path.{sym, ◌∙◌}
use Rattle.reach.proofs.StepLaws.{close_yes, close_no}
use Rattle.reach.proofs.close_row.Goals as goal

pub returns-then-test_bit : goal.returns-then-test_bit
returns-then-test_bit c = close_yes _ _ _ (sym c.test_bit.ensures ∙ c.if-test_bit.true)

pub returns-else-test_bit : goal.returns-else-test_bit
returns-else-test_bit c = close_no _ _ _ (sym c.test_bit.ensures ∙ c.if-test_bit.false)
