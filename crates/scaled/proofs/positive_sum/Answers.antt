-- The operand with the higher exponent comes first. Assumes nothing.
use mathlib.Core.Path.{◌∙◌}
use native.Mathlib.Omega.{arith}
use Rattle.scaled.proofs.Signed32.{held_fits}
use Rattle.scaled.proofs.Alignment.{difference, lower_asks, lower_is, upper_asks, upper_is}
use Rattle.scaled.proofs.positive_sum.Goals as goal

pub overflow_sub-a : goal.overflow_sub-a
overflow_sub-a c = held_fits (difference _ _ c.requires.scaled.0 c.requires.scaled.1) (omega arith)

pub aligned_sum-requires : goal.aligned_sum-requires
aligned_sum-requires c = lower_asks _ _ c.requires.scaled.0 c.requires.scaled.1 c.if-a-b-lt0.true c.requires.positive.1

pub returns-then-a-b-lt0 : goal.returns-then-a-b-lt0
returns-then-a-b-lt0 c = c.aligned_sum.ensures ∙ lower_is _ _ c.requires.scaled.0 c.requires.scaled.1 c.if-a-b-lt0.true

pub aligned_sum-requires-else-a-b-lt0 : goal.aligned_sum-requires-else-a-b-lt0
aligned_sum-requires-else-a-b-lt0 c = upper_asks _ _ c.requires.scaled.0 c.requires.scaled.1 c.if-a-b-lt0.false c.requires.positive.0

pub returns-else-a-b-lt0 : goal.returns-else-a-b-lt0
returns-else-a-b-lt0 c = c.aligned_sum-else-a-b-lt0.ensures ∙ upper_is _ _ c.requires.scaled.0 c.requires.scaled.1 c.if-a-b-lt0.false
