-- Assumes nothing.
use Rattle.std.proofs.Common.{◌≡◌, ℕ, ◌+◌, ◌-◌, ◌<◌, ◌∙◌, arith}
use mathlib.Core.Path.{subst⁻¹}
use Rattle.scaled.specs.declared.Scaled.{Scaled}
use Rattle.markov.specs.Elimination.{total}
use Rattle.kernel.specs.declared.Matrix.{Matrix}
use Rattle.kernel.specs.declared.Numbers.{Numbers}
use Rattle.kernel.specs.Numbers.{Fit, ops, plus, times}
use Rattle.kernel.specs.Slices.{number_at}
use Rattle.kernel.specs.Kernel.{SumsFit}
use Rattle.kernel.specs.Lent.{held, entry_of}
use Rattle.weighing.specs.Inner.{flow_at}
use Rattle.kernel.proofs.Operands.{plus_both}
use Rattle.kernel.proofs.Sums.{total_go, total_start}
use Rattle.weighing.proofs.flow.Goals as goal

-- weight i times entry (i, k)
abbrev term : Matrix → Numbers → ℕ → ℕ → Scaled
term x w k i = times (number_at (held w) i) (entry_of x i k)

-- the sum with one term more is a scaled number
longer : (n k j : ℕ) (f : ℕ → Scaled) (s : Scaled) → SumsFit (n - (k + 1)) (λ i. f (k + 1 + i)) → k < j → j < n
    → s ≡ total ops (j - (k + 1)) (λ i. f (k + 1 + i)) → Fit (plus s (f j))
longer n k j f s fits l g q = subst⁻¹ Fit (total_go f (k + 1) j s (omega arith) q) (fits.at _ (omega arith))

pub loop-j-init : goal.loop-j-init
loop-j-init c = let a = c.args in c.zero-s.ensures ∙ total_start (term a.x.now a.w.now a.k) (a.k + 1)

pub times_of-requires : goal.times_of-requires
times_of-requires c =
    let a = c.args in
    let f = term a.x.now a.w.now a.k in
    let l = longer a.x.now.order a.k c.loop-j.j f c.loop-j.s c.requires.sums_fit (omega arith) (omega arith) c.loop-j.invariant in
    rw (c.entry.ensures, c.load.ensures) (plus_both _ _ l).1

pub plus_of-s-requires : goal.plus_of-s-requires
plus_of-s-requires c =
    let a = c.args in
    let f = term a.x.now a.w.now a.k in
    let l = longer a.x.now.order a.k c.loop-j.j f c.loop-j.s c.requires.sums_fit (omega arith) (omega arith) c.loop-j.invariant in
    rw (c.times_of.ensures, c.entry.ensures, c.load.ensures) l

pub loop-j-preserved : goal.loop-j-preserved
loop-j-preserved c =
    let a = c.args in
    rw (c.plus_of-s.ensures, c.times_of.ensures, c.entry.ensures, c.load.ensures)
    (total_go (term a.x.now a.w.now a.k) (a.k + 1) _ _ (omega arith) c.loop-j.invariant)

pub returns : goal.returns
unfolding flow_at
returns c = let q : c.loop-j.j ≡ c.args.x.now.order = omega arith in c.loop-j.invariant ∙ rw q
