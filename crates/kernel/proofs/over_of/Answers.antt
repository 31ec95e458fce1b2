-- The operation, where its result is a scaled number. Assumes nothing.
use Rattle.scaled.specs.Scaled.{quotient_of}
use Rattle.kernel.specs.Numbers.{divided_by}
use Rattle.kernel.proofs.Operands.{known, over_both}
use Rattle.kernel.proofs.over_of.Goals as goal

pub wide_quotient-requires : goal.wide_quotient-requires
wide_quotient-requires c = over_both _ _ c.requires

pub returns : goal.returns
unfolding divided_by
returns c = known _ (quotient_of _ _) c.wide_quotient.ensures c.requires
