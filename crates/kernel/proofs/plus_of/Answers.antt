-- The operation, where its result is a scaled number. Assumes nothing.
use Rattle.scaled.specs.Scaled.{sum_of}
use Rattle.kernel.specs.Numbers.{plus}
use Rattle.kernel.proofs.Operands.{known, plus_both}
use Rattle.kernel.proofs.plus_of.Goals as goal

pub wide_sum-requires : goal.wide_sum-requires
wide_sum-requires c = plus_both _ _ c.requires

pub returns : goal.returns
unfolding plus
returns c = known _ (sum_of _ _) c.wide_sum.ensures c.requires
