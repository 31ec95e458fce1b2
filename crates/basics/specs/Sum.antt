-- Finite sums and products of whole numbers.
-- They go by the first term, so that a shift by one, from the states 0 .. r to the states 1 .. r, computes.
use Rattle.std.specs.Prelude.{ℕ, zero, suc, ◌+◌, ◌*◌}

-- f 0 + .. + f (n - 1)
unfoldable pub sum : ℕ → (ℕ → ℕ) → ℕ
sum zero f = 0
sum (suc n) f = f zero + sum n (λ i. f (suc i))

-- f 0 * .. * f (n - 1)
unfoldable pub prod : ℕ → (ℕ → ℕ) → ℕ
prod zero f = 1
prod (suc n) f = f zero * prod n (λ i. f (suc i))
