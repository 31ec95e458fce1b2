-- A test over the numbers below n, a test as a number, and a function changed at one place.
use Rattle.std.specs.Prelude.{Bool, true, false, cond, ◌&&◌, ℕ, zero, suc, eqb}

-- 1 where the test holds, 0 where it fails
unfoldable pub count : Bool → ℕ
count true = 1
count false = 0

-- whether the test holds at every number below n
unfoldable pub all : ℕ → (ℕ → Bool) → Bool
all zero p = true
all (suc n) p = p n && all n p

-- f, but k at m
unfoldable pub put : (ℕ → ℕ) → ℕ → ℕ → ℕ → ℕ
put f m k v = cond (eqb v m) k (f v)
