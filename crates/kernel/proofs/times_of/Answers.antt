-- The operation, where its result is a scaled number. Assumes nothing.
use Rattle.scaled.specs.Scaled.{product_of}
use Rattle.kernel.specs.Numbers.{times}
use Rattle.kernel.proofs.Operands.{known, times_both}
use Rattle.kernel.proofs.times_of.Goals as goal

pub wide_product-requires : goal.wide_product-requires
wide_product-requires c = times_both _ _ c.requires

pub returns : goal.returns
unfolding times
returns c = known _ (product_of _ _) c.wide_product.ensures c.requires
