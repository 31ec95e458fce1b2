-- The count of an elimination's own steps, which is at most the bound count. No contract rests on it.
use Prim.Native.Nat.{ℕ, zero, suc, ◌+◌, ◌*◌}
use Rattle.basics.specs.Sum.{sum}
use Rattle.markov.specs.Elimination.{Ops, pivot_of, next}

-- 1 for a positive number, 0 for 0
unfoldable pub mark : ℕ → ℕ
mark zero = 0
mark (suc n) = 1

-- how many of f 0 .. f (n - 1) are positive
unfoldable pub positives : ℕ → (ℕ → ℕ) → ℕ
positives n f = sum n (λ i. mark (f i))

-- the count of one step on r + 2 states, of which the pivot's row has b positive entries and its column c
unfoldable pub step_count : ℕ → ℕ → ℕ → ℕ
step_count r b c = 2 * (r * (b + 2)) + (b + c)

module _ {X : Type 0} (O : Ops X) (val : X → ℕ) where
  -- the sum of the steps' counts, of the entries as they stand at each step, in the elimination of r + 1 states
  unfoldable pub elimination_count : ℕ → (ℕ → ℕ → X) → ℕ
  elimination_count zero a = 0
  elimination_count (suc r) a =
      step_count r (positives (suc r) (λ j. val (a zero (suc j)))) (positives (suc r) (λ i. val (a (suc i) zero)))
      + elimination_count r (next O (suc r) a)

  -- the product of the pivots of the elimination of r + 1 states
  unfoldable pub pivot_product : ℕ → (ℕ → ℕ → X) → ℕ
  pivot_product zero a = 1
  pivot_product (suc r) a = val (pivot_of O (suc r) a) * pivot_product r (next O (suc r) a)
