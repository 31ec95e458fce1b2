-- Document 01, "The elimination (source document 001, Algorithm GTH, first state first)", as a function over numbers of any kind X.
-- States count from 0; a matrix on r + 1 states loses state 0 at a step, and the states above it are counted from 0 again.
-- The diagonal is never used.
use Rattle.std.specs.Prelude.{ℕ, zero, suc}

-- the numbers Zero and 1, and the sum, the product and the quotient of two numbers
pub record Ops (X : Type 0) : Type 0 where
  pub nought : X
  pub unit : X
  pub add : X → X → X
  pub mul : X → X → X
  pub div : X → X → X

module _ {X : Type 0} (O : Ops X) where
  -- "Sums start from Zero": the sum of f 0 .. f (n - 1), rising
  unfoldable pub total : ℕ → (ℕ → X) → X
  total zero f = O.nought
  total (suc n) f = O.add (total n f) (f n)

  -- "the pivot s is the sum of the entries (k, j), j rising from k + 1"
  unfoldable pub pivot_of : ℕ → (ℕ → ℕ → X) → X
  pivot_of r a = total r (λ j. a zero (suc j))

  -- "For each j above k the quotient t(j) is entry (k, j) divided by s."
  unfoldable pub quotient_at : ℕ → (ℕ → ℕ → X) → ℕ → X
  quotient_at r a j = O.div (a zero (suc j)) (pivot_of r a)

  -- "Each entry (i, j) with i and j above k and i not j becomes itself plus the product of entry (i, k) and t(j)."
  unfoldable pub next : ℕ → (ℕ → ℕ → X) → ℕ → ℕ → X
  next r a i j = O.add (a (suc i) (suc j)) (O.mul (a (suc i) zero) (quotient_at r a j))

  -- The weights of r + 1 states. "Then back: the last weight is 1; .. weight k is the sum, j rising from k + 1, of weight j times
  -- entry (j, k) as it stood at step k, divided once by that step's s."
  unfoldable pub weights : ℕ → (ℕ → ℕ → X) → ℕ → X
  weights zero a i = O.unit
  weights (suc r) a zero = O.div (total (suc r) (λ j. O.mul (weights r (next (suc r) a) j) (a (suc j) zero))) (pivot_of (suc r) a)
  weights (suc r) a (suc i) = weights r (next (suc r) a) i

  -- "Share k is weight k divided by the sum of all weights taken from state 0 up."
  unfoldable pub shares : ℕ → (ℕ → ℕ → X) → ℕ → X
  shares r a i = O.div (weights r a i) (total (suc r) (weights r a))
