-- What the shares meet. Assumes nothing.
use mathlib.Core.Path.{◌≡◌, ap₂, subst⁻¹}
use Prim.Native.Nat.{ℕ, suc, ◌-◌, ◌≤◌, ◌<◌}
use native.Mathlib.Omega.{arith}
use Rattle.scaled.specs.declared.Scaled.{Scaled}
use Rattle.markov.specs.Elimination.{total, weights, shares}
use Rattle.markov.specs.Promises.{AllFitShares}
use Rattle.markov.proofs.Diagonal.{total_cong}
use Rattle.kernel.specs.Numbers.{ops, Fit, divided_by}
use Rattle.kernel.specs.Slices.{Slices, number_at}
use Rattle.kernel.specs.Kernel.{Holds}
use Rattle.weighing.specs.Weighing.{total_of, SharesFit}

-- the slices hold the weights of a matrix for which every number met, the shares included, is a scaled number
module _ (n : ℕ) (x : ℕ → ℕ → Scaled) {w : Slices} (some : 0 < n) (f : AllFitShares ops Fit (n - 1) x) (h : Holds n (weights ops (n - 1) x) w) where
  sum_is : (j : ℕ) → j ≤ n → total ops j (number_at w) ≡ total ops j (weights ops (n - 1) x)
  sum_is j g = total_cong ops j (λ i l. h.at i (omega arith))

  pub shares_fit : SharesFit n w
  unfolding shares total_of
  shares_fit = record {
    sums = record { at = λ j g. subst⁻¹ Fit (sum_is j g) (f.sums j (omega arith)) };
    shares = λ k l.
        let z : suc (n - 1) ≡ n = omega arith in
        subst⁻¹ Fit (ap₂ divided_by (h.at k l) (sum_is n (omega arith))) (rw z at (f.shares_fit k (omega arith)));
  }
