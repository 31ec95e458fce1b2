-- The exact product of two mantissas in one word of 64 bits, its rounded value, and an entry plus that. Assumes nothing.
use mathlib.Core.Path.{◌≡◌, refl, sym, ◌∙◌}
use mathlib.Core.Bool.{true}
use Prim.Native.Nat.{◌*◌, ◌≤◌, ◌<◌}
use native.Mathlib.Nat.{mul-le-mul, lt_of_le_of_lt}
use native.Mathlib.Omega.{arith}
use lib.IntN.{pos, ◌+ℤ◌}
use Rattle.scaled.specs.declared.Scaled.{Scaled}
use Rattle.std.specs.Prelude.{Some}
use Rattle.scaled.specs.Scaled.{zero_number, is_scaled, dyadic, exact_sum, nearest, sum_of, product_of, sum_with_product, rounded_sum, rounded_product}
use Rattle.scaled.specs.Scaled.{bit_length_up_to, bit_length, is_scaled_at, upward, carried}
use Rattle.scaled.proofs.Ties.{nearest_zero}
use Rattle.scaled.proofs.Forms.{form, m_below, both_scaled}
use Rattle.scaled.proofs.Mantissas.{product_low}

module _ (a t : Scaled) (sa : is_scaled a ≡ true) (st : is_scaled t ≡ true) where
  pub raw_below : a.m * t.m < 18446744073709551616
  unfolding is_scaled
  raw_below =
      let p : a.m < 4294967296 = m_below (form 31 a sa) in
      let q : t.m < 4294967296 = m_below (form 31 t st) in
      lt_of_le_of_lt (mul-le-mul {n₁ = a.m} {m₁ = t.m} {n₂ = 4294967295} {m₂ = 4294967295} (omega arith) (omega arith)) (omega arith)

  pub raw_above : (a.m * t.m ≡ 0 → ⊥) → 4611686018427387904 ≤ a.m * t.m
  unfolding is_scaled
  raw_above = product_low (form 31 a sa) (form 31 t st)

  pub product_is : nearest 31 (dyadic (a.m * t.m) (a.e +ℤ t.e)) ≡ product_of a t
  unfolding is_scaled product_of rounded_product
  product_is = both_scaled 31 a t _ sa st

  pub product_zero : a.m * t.m ≡ 0 → product_of a t ≡ Some zero_number
  product_zero z = sym (nearest_zero 31 _ 1 _ z ∙ product_is)

-- ---- an entry plus the ROUNDED product, and what rounding product and sum at once would give

rounded_twice : sum_with_product (record { m = 2269235112; e = pos 33 }) (record { m = 3821699725; e = pos 0 }) (record { m = 4006204038; e = pos 0 })
    ≡ Some (record { m = 4051612930; e = pos 33 })
unfolding sum_of product_of rounded_sum rounded_product is_scaled_at nearest carried upward bit_length bit_length_up_to
rounded_twice = refl

at_once : nearest 31 (exact_sum (record { m = 2269235112; e = pos 33 }) (record { m = 3821699725 * 4006204038; e = pos 0 })) ≡ Some (record { m = 4051612929; e = pos 33 })
unfolding nearest carried upward bit_length bit_length_up_to
at_once = refl
