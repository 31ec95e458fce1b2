-- The elimination's operations on scaled numbers, and the matrix at each of its steps. Where an operation gives no number, a pair that is no
-- scaled number stands in, so that "every number met is a scaled number" says that every operation had a result.
use Rattle.std.specs.Prelude.{true, ◌≡◌, ℕ, zero, suc, ◌+◌, ◌-◌, Option, Some, None}
use Rattle.scaled.specs.declared.Scaled.{Scaled}
use Rattle.scaled.specs.Scaled.{zero_number, no_number, is_scaled, sum_of, product_of, quotient_of}
use Rattle.scaled.specs.Units.{one_number}
use Rattle.markov.specs.Elimination.{Ops, next}

-- x is a scaled number
abbrev pub Fit : Scaled → Type 0
Fit x = is_scaled x ≡ true

abbrev pub settle : Option Scaled → Scaled
settle (Some x) = x
settle None = no_number

unfoldable pub plus : Scaled → Scaled → Scaled
plus a b = settle (sum_of a b)

unfoldable pub times : Scaled → Scaled → Scaled
times a b = settle (product_of a b)

unfoldable pub divided_by : Scaled → Scaled → Scaled
divided_by a b = settle (quotient_of a b)

abbrev pub ops : Ops Scaled
ops = record { nought = zero_number; unit = one_number; add = plus; mul = times; div = divided_by }

-- the matrix of n states as it stands at step k, its remaining states counted from 0
unfoldable pub stage : ℕ → ℕ → (ℕ → ℕ → Scaled) → ℕ → ℕ → Scaled
stage n zero x = x
stage n (suc k) x = next ops (n - (k + 1)) (stage n k x)
