-- What `weigh` and `share` ask and leave.
use Rattle.std.specs.Prelude.{◌≡◌, ℕ, ◌+◌, ◌-◌, ◌<◌}
use Rattle.scaled.specs.declared.Scaled.{Scaled}
use Rattle.markov.specs.Elimination.{total, pivot_of, weights}
use Rattle.kernel.specs.Numbers.{ops, Fit, divided_by, stage}
use Rattle.kernel.specs.Slices.{Slices, number_at, entry_at}
use Rattle.kernel.specs.Kernel.{Holds, SumsFit}

-- the weights of the matrix x stand in w, and the pivot of step k at entry (k, k) of s
pub record Weighed (n : ℕ) (x : ℕ → ℕ → Scaled) (s w : Slices) : Type 0 where
  pub weights_are : Holds n (weights ops (n - 1) x) w
  pub pivots : (k : ℕ) → k + 1 < n → entry_at n s k k ≡ pivot_of ops (n - (k + 1)) (stage n k x)

-- share k: weight k divided by t
abbrev pub share_of : Slices → Scaled → ℕ → Scaled
share_of w t k = divided_by (number_at w k) t

-- the sum of the weights, taken from state 0 up
unfoldable pub total_of : ℕ → Slices → Scaled
total_of n w = total ops n (number_at w)

-- every number that the shares meet is a scaled number
pub record SharesFit (n : ℕ) (w : Slices) : Type 0 where
  pub sums : SumsFit n (number_at w)
  pub shares : (k : ℕ) → k < n → Fit (share_of w (total_of n w) k)
