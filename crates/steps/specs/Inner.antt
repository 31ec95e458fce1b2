-- What the steps ask and leave. At step k entry (k, k) takes the pivot and entry (k, j) the quotient t(j), j above k; the column
-- below the pivot stays as it stood at step k.
use Rattle.std.specs.Prelude.{◌≢◌, ◌≡◌, ℕ, zero, suc, ◌+◌, ◌-◌, ◌<◌}
use Rattle.scaled.specs.declared.Scaled.{Scaled}
use Rattle.markov.specs.Elimination.{total, pivot_of}
use Rattle.markov.specs.Promises.{FitsOn}
use Rattle.kernel.specs.Numbers.{ops, Fit, plus, times, divided_by, stage}
use Rattle.kernel.specs.Slices.{Slices, entry_at}
use Rattle.kernel.specs.Kernel.{Kept, SumsFit}

-- the pivot of step k: the sum of the entries (k, j), j rising from k + 1
unfoldable pub pivot_at : ℕ → Slices → ℕ → Scaled
pivot_at n s k = total ops (n - (k + 1)) (λ j. entry_at n s k (k + 1 + j))

-- entry (a, b) after step k
abbrev pub next_at : ℕ → Slices → ℕ → ℕ → ℕ → Scaled
next_at n s k a b = plus (entry_at n s a b) (times (entry_at n s a k) (divided_by (entry_at n s k b) (pivot_at n s k)))

-- before step k: every number that it will meet is a scaled number
pub record Standing (n k : ℕ) (s : Slices) : Type 0 where
  pub sums : SumsFit (n - (k + 1)) (λ j. entry_at n s k (k + 1 + j))
  pub quotients : (b : ℕ) → k < b → b < n → Fit (divided_by (entry_at n s k b) (pivot_at n s k))
  pub nexts : (a b : ℕ) → k < a → a < n → k < b → b < n → a ≢ b → Fit (next_at n s k a b)

-- step k: the pivot stands at (k, k), the column below it is as it was, and so are the columns before it; the other entries below
-- and to the right of the pivot, off the diagonal, have become themselves plus the product of entry (a, k) and t(b)
pub record Stepped (n k : ℕ) (s s' : Slices) : Type 0 where
  pub kept : Kept s s'
  pub pivot : entry_at n s' k k ≡ pivot_at n s k
  pub column : (a : ℕ) → k < a → a < n → entry_at n s' a k ≡ entry_at n s a k
  pub earlier : (a b : ℕ) → a < n → b < k → entry_at n s' a b ≡ entry_at n s a b
  pub entries : (a b : ℕ) → k < a → a < n → k < b → b < n → a ≢ b → entry_at n s' a b ≡ next_at n s k a b

-- every number that the steps from the matrix x meet is a scaled number
pub record StagesFit (n : ℕ) (x : ℕ → ℕ → Scaled) : Type 0 where
  pub at : (k : ℕ) → k + 1 < n → FitsOn ops Fit (n - (k + 1)) (stage n k x)

-- after the steps below k, from the matrix x: what remains is stage k, and each earlier column and pivot is as its step left it
pub record Eliminated (n k : ℕ) (x : ℕ → ℕ → Scaled) (s : Slices) : Type 0 where
  pub rest : (a b i j : ℕ) → a ≡ k + i → b ≡ k + j → a < n → b < n → i ≢ j → entry_at n s a b ≡ stage n k x i j
  pub column : (c a i : ℕ) → c < k → a ≡ c + suc i → a < n → entry_at n s a c ≡ stage n c x (suc i) zero
  pub pivot : (c : ℕ) → c < k → entry_at n s c c ≡ pivot_of ops (n - (c + 1)) (stage n c x)
