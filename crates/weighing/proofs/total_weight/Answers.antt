-- Assumes nothing.
use Rattle.std.proofs.Common.{◌≡◌, length, arith}
use mathlib.Core.Path.{subst⁻¹}
use Rattle.markov.specs.Elimination.{total}
use Rattle.kernel.specs.Numbers.{Fit}
use Rattle.kernel.specs.Slices.{number_at}
use Rattle.kernel.specs.Lent.{held}
use Rattle.weighing.specs.Weighing.{total_of}
use Rattle.kernel.proofs.Sums.{total_next}
use Rattle.weighing.proofs.total_weight.Goals as goal

pub loop-k-init : goal.loop-k-init
unfolding total
loop-k-init c = c.zero-s.ensures

pub plus_of-s-requires : goal.plus_of-s-requires
plus_of-s-requires c =
    let sum = total_next (number_at (held c.args.w.now)) _ _ c.loop-k.invariant in
    rw c.load.ensures (subst⁻¹ Fit sum (c.requires.at _ (omega arith)))

pub loop-k-preserved : goal.loop-k-preserved
loop-k-preserved c = rw (c.plus_of-s.ensures, c.load.ensures) (total_next (number_at (held c.args.w.now)) _ _ c.loop-k.invariant)

pub returns : goal.returns
unfolding total_of
returns c = let q : c.loop-k.k ≡ length c.args.w.now.m.now = omega arith in rw q at c.loop-k.invariant
