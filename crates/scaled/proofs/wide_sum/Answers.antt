-- A sum with Zero is the other operand. Assumes nothing.
use mathlib.Core.Path.{◌∙◌}
use Rattle.scaled.specs.Scaled.{is_scaled, sum_of}
use Rattle.scaled.proofs.Forms.{own_number}
use Rattle.scaled.proofs.Alignment.{sum_zero_left, sum_zero_right}
use Rattle.scaled.proofs.wide_sum.Goals as goal

pub returns-then-a-eq0 : goal.returns-then-a-eq0
unfolding sum_of is_scaled
returns-then-a-eq0 c = own_number 31 _ c.requires.1 ∙ sum_zero_left 31 _ _ c.requires.0 c.requires.1 c.if-a-eq0.true

pub returns-then-b-eq0 : goal.returns-then-b-eq0
unfolding sum_of is_scaled
returns-then-b-eq0 c = own_number 31 _ c.requires.0 ∙ sum_zero_right 31 _ _ c.requires.0 c.requires.1 c.if-b-eq0.true
