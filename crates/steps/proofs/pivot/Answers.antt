-- Assumes nothing.
use Rattle.std.proofs.Common.{◌≡◌, ◌+◌, ◌∙◌, arith}
use mathlib.Core.Path.{subst⁻¹}
use Rattle.kernel.specs.Numbers.{Fit}
use Rattle.kernel.specs.Lent.{entry_of}
use Rattle.kernel.proofs.Sums.{total_go, total_start}
use Rattle.steps.specs.Inner.{pivot_at}
use Rattle.steps.proofs.pivot.Goals as goal

pub loop-j-init : goal.loop-j-init
loop-j-init c = let k = c.args.k in c.zero-s.ensures ∙ total_start (entry_of c.args.x.now k) (k + 1)

pub plus_of-s-requires : goal.plus_of-s-requires
plus_of-s-requires c =
    let k = c.args.k in
    let q = total_go (entry_of c.args.x.now k) (k + 1) _ _ (omega arith) c.loop-j.invariant in
    rw c.entry.ensures (subst⁻¹ Fit q (c.requires.sums_fit.at _ (omega arith)))

pub loop-j-preserved : goal.loop-j-preserved
loop-j-preserved c =
    let k = c.args.k in
    rw (c.plus_of-s.ensures, c.entry.ensures) (total_go (entry_of c.args.x.now k) (k + 1) _ _ (omega arith) c.loop-j.invariant)

pub returns : goal.returns
unfolding pivot_at
returns c = let q : c.loop-j.j ≡ c.args.x.now.order = omega arith in c.loop-j.invariant ∙ rw q
