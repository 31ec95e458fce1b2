-- What each field of the contracts of `sum`, `product`, `quotient` and `from_rate` says of numbers, for words of 32 bits and, of the rounding itself, for words of 3.
-- Assumes nothing.
use mathlib.Core.Bool.{true, false}
use mathlib.Core.Logic.{inr, ⊎_elim}
use mathlib.Core.Path.{◌≡◌, refl, sym, ◌∙◌}
use Prim.Native.Nat.{ℕ, ◌*◌, ◌<◌, ◌≤◌}
use native.Mathlib.Omega.{arith}
use lib.Dec.{lit<, lit≤}
use lib.IntN.{ℤ, pos, negsuc}
use Rattle.scaled.specs.declared.Scaled.{Scaled}
use Rattle.std.specs.Prelude.{Option, Some, None}
use Rattle.scaled.specs.Scaled.{Exact, zero_number, exponent_in_range, is_scaled_at, is_scaled, exact_product, exact_quotient}
use Rattle.scaled.specs.Units.{val, one, middle, OutOfRange, NoneExactly, Converts}
use Rattle.scaled.proofs.Laws.{one_pos, limit_above}
use Rattle.scaled.specs.Nearest.{CountedFrom, Nearest, NearestInRange, RoundedToNearest}
use Rattle.worked.specs.Table.{scaled, minus}
use Rattle.worked.proofs.Cases.{cases_hold}

-- ---- operands: (1, 0) is no scaled number

abbrev bad : Scaled
bad = scaled 1 (pos 0)

abbrev unit : Scaled
unit = scaled 2147483648 (minus 31)

abbrev three : Scaled
three = scaled 3221225472 (minus 30)

module _ {r : Option Scaled} where
  pub first_operand : RoundedToNearest 31 bad unit (exact_product bad unit) r → r ≡ None
  unfolding is_scaled_at
  first_operand p = p.no_first refl

  pub second_operand : RoundedToNearest 31 unit bad (exact_product unit bad) r → r ≡ None
  unfolding is_scaled_at
  second_operand p = p.no_second refl

  pub by_zero : RoundedToNearest 31 unit zero_number (exact_quotient unit zero_number) r → r ≡ None
  by_zero p = p.by_zero refl

  pub product_zero : RoundedToNearest 31 unit zero_number (exact_product unit zero_number) r → r ≡ Some zero_number
  unfolding is_scaled_at
  product_zero p = p.zero refl refl (lit< tt) refl

  pub third : RoundedToNearest 31 unit three (exact_quotient unit three) r → NearestInRange 31 (exact_quotient unit three) r
  unfolding is_scaled_at
  third p = p.nearest refl refl (lit< tt) (lit< tt)

-- ---- the range: a number inside it is given, and none outside

unequal : {x : Scaled} → ◌≡◌ {A = Option Scaled} (Some x) None → ⊥
unequal q = let z : ◌≡◌ {A = ℕ} 0 1 = cc in absurd (omega arith)

module _ {x : Exact} where
  pub given_inside : (n : NearestInRange 31 x None) → exponent_in_range n.e ≡ true → ⊥
  given_inside n q = unequal (sym (n.inside q))

  pub none_outside : {y : Scaled} → (n : NearestInRange 31 x (Some y)) → exponent_in_range n.e ≡ false → ⊥
  none_outside n q = unequal (n.outside q)

  pub whole_m : {r : Option Scaled} → (n : NearestInRange 31 x r) → 2147483648 ≤ n.m
  whole_m n = n.is.lo

-- ---- the rounding, in words of 3 bits, whose m runs from 4 to 7

pub three_bits : {m : ℕ} {e : ℤ} → Nearest 2 5 7 (pos 0) m e → (4 ≤ m) × (m < 8)
three_bits n = (n.lo, n.hi)

-- 5 / 7 = 0.714.. is not 5 eighths, since 6 eighths are nearer
pub not_cut : Nearest 2 5 7 (pos 0) 5 (negsuc 2) → ⊥
not_cut n =
    let c : CountedFrom (pos 0) (negsuc 2) (negsuc 2) 3 0 0 = record { w = negsuc 2; z_is = refl; e_is = refl; e'_is = refl } in
    absurd (omega (arith, n.none_nearer 6 (negsuc 2) 3 0 0 (lit< tt) c))

-- 15 / 2 is half way between 7 and 8 = 4 × 2, and 7 is odd
pub not_odd : Nearest 2 15 1 (negsuc 0) 7 (pos 0) → ⊥
not_odd n =
    let c : CountedFrom (negsuc 0) (pos 0) (pos 1) 0 1 2 = record { w = negsuc 0; z_is = refl; e_is = refl; e'_is = refl } in
    absurd (omega (arith, n.even 4 (pos 1) 0 1 2 (lit< tt) c refl (λ q. omega (arith, q))))

-- ---- none exactly where the result is out of range: one unit, 2^-16384, is, and 0 is not

pub one_unit : {r : Option Scaled} → NoneExactly 1 1 r → r ≡ None
unfolding OutOfRange middle
one_unit n = n.all (inr (lit< tt, lit< tt))

pub nought_in_range : NoneExactly 0 1 None → ⊥
unfolding OutOfRange
nought_in_range n = ⊎_elim (λ h. omega (arith, h, limit_above 0 (lit≤ tt), one_pos)) (λ h. omega (arith, h.0)) (n.only refl)

-- ---- a converted rate: "Rate 3 is (3221225472, -30)"

module _ {r : Scaled} (c : Converts 3 r) where
  pub rate_3 : r ≡ three
  rate_3 = c.number_is ∙ cases_hold.case_5

  pub rate_3_scaled : is_scaled r ≡ true
  rate_3_scaled = c.scaled

  pub rate_3_means : val r ≡ 3 * one
  rate_3_means = c.means
