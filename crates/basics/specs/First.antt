-- The first number of a range at which a test holds: the place that a refusal names.
use Rattle.std.specs.Prelude.{ℕ, zero, suc, ◌+◌, ◌-◌, Bool, cond, ltb, Option, Some, None}

-- of the k numbers from i on, the first at which the test holds, or i + k
abbrev pub first_of : (ℕ → Bool) → ℕ → ℕ → ℕ
first_of test zero i = i
first_of test (suc k) i = cond (test i) i (first_of test k (i + 1))

-- the first number from i up to, not including, e at which the test holds, or e
abbrev pub first : (ℕ → Bool) → ℕ → ℕ → ℕ
first test i e = first_of test (e - i) i

-- the same, where there is one
abbrev pub found : (ℕ → Bool) → ℕ → ℕ → Option ℕ
found test i e = cond (ltb (first test i e) e) (Some (first test i e)) None
