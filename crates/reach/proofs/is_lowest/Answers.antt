use mathlib.Core.Path.{sym, ◌∙◌}
use Rattle.basics.proofs.BoolLaws.{and_no_first, and_decides}
use Rattle.reach.specs.ClosedSets.{is_lowest}
use Rattle.reach.proofs.is_lowest.Goals as goal

pub returns-then-none_below : goal.returns-then-none_below
unfolding is_lowest
returns-then-none_below c = c.settles.ensures ∙ sym (and_decides _ _ (sym c.none_below.ensures ∙ c.if-none_below.true))

pub returns-else-none_below : goal.returns-else-none_below
unfolding is_lowest
returns-else-none_below c = c.if-none_below.false ∙ sym (and_no_first _ _ (sym c.none_below.ensures ∙ c.if-none_below.false))
