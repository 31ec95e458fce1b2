-- The first mantissa with 32 zero bits put to it, divided by the second, has 32 or 33 bits; two bits of the rest go on with them. Assumes nothing.
use mathlib.Core.Path.{◌≡◌, ap, ◌∙◌}
use mathlib.Core.Logic.{◌≢◌}
use mathlib.Core.Bool.{true}
use Prim.Native.Nat.{◌+◌, ◌*◌, ◌/◌, ◌%◌, ◌≤◌, ◌<◌}
use native.Mathlib.Nat.{mod-lt}
use native.Mathlib.Omega.{arith}
use lib.IntN.{ℤ, pos, ◌-ℤ◌}
use mir.Syntax.{w32}
use mir.Val.{to_z, of_z}
use borrow.Author.Tests.{ne_eqb}
use Rattle.scaled.specs.declared.Scaled.{Scaled}
use Rattle.scaled.specs.Scaled.{zero_number, ranged_number, is_scaled, dyadic, exact_quotient, nearest, quotient_of, rounded_quotient}
use Rattle.scaled.proofs.Signed32.{Held, held, held_fits, held_small, stored, minus}
use Rattle.scaled.proofs.Ties.{nearest_zero}
use Rattle.scaled.proofs.Forms.{form, m_big, m_below, some_m, exponent_held, both_scaled}
use Rattle.scaled.proofs.Mantissas.{quotient_low, quotient_high}
use Rattle.scaled.proofs.Words.{bits_told, bits_small, nearest_ratio}
use Rattle.scaled.proofs.wide_quotient.Goals as goal

below : (a : Scaled) → is_scaled a ≡ true → a.m < 4294967296
unfolding is_scaled
below a s = m_below (form 31 a s)

big : (a : Scaled) → is_scaled a ≡ true → (a.m ≡ 0 → ⊥) → 2147483648 ≤ a.m
unfolding is_scaled
big a s n = m_big (form 31 a s) n

-- a divisor is not Zero
some : (b : Scaled) → is_scaled b ≡ true → b ≢ zero_number → b.m ≡ 0 → ⊥
unfolding is_scaled
some b t n z = omega (arith, some_m 31 b t n)

module _ (a b : Scaled) (s : is_scaled a ≡ true) (t : is_scaled b ≡ true) (n : b ≢ zero_number) where
  divisor : 2147483648 ≤ b.m
  divisor = big b t (some b t n)

  -- the exact quotient, rounded
  exact : nearest 31 (exact_quotient a b) ≡ quotient_of a b
  unfolding is_scaled quotient_of rounded_quotient
  exact = rw (ne_eqb b.m 0 (some b t n)) (both_scaled 31 _ _ _ s t)

  difference : Held (to_z w32 (of_z w32 a.e) -ℤ to_z w32 (of_z w32 b.e)) (a.e -ℤ b.e) 32769
  difference = minus (exponent_held _ s) (exponent_held _ t)

  exponent : Held (to_z w32 (of_z w32 (to_z w32 (of_z w32 a.e) -ℤ to_z w32 (of_z w32 b.e))) -ℤ pos 34) (a.e -ℤ b.e -ℤ pos 34) 32805
  exponent = minus (stored difference (omega arith)) (held (pos 34) {n = 35} (omega arith))

  left : a.m * 4294967296 % b.m < b.m
  left = mod-lt (a.m * 4294967296) (omega (arith, divisor))

  -- where the first is not Zero, the quotient of the mantissas has 32 or 33 bits
  low : (a.m ≡ 0 → ⊥) → 2147483648 ≤ a.m * 4294967296 / b.m
  low some = quotient_low 31 a.m b.m (big a s some) (below a s) divisor (below b t)

  high : (a.m ≡ 0 → ⊥) → a.m * 4294967296 / b.m < 8589934592
  high some = quotient_high 31 a.m b.m (big a s some) (below a s) divisor (below b t)

pub returns-then-a-eq0 : goal.returns-then-a-eq0
returns-then-a-eq0 c = ap ranged_number c.zero.ensures ∙ nearest_zero 31 _ _ _ c.if-a-eq0.true ∙ exact _ _ c.requires.0 c.requires.1 c.requires.2

pub overflow_mul-n-2 : goal.overflow_mul-n-2
overflow_mul-n-2 c = record { fits = omega (arith, high _ _ c.requires.0 c.requires.1 c.requires.2 c.if-a-eq0.false) }

pub nonzero_div-n : goal.nonzero_div-n
nonzero_div-n c = omega (arith, divisor _ _ c.requires.0 c.requires.1 c.requires.2)

pub nonzero_rem-n : goal.nonzero_rem-n
nonzero_rem-n c = omega (arith, divisor _ _ c.requires.0 c.requires.1 c.requires.2)

pub last_bits-requires : goal.last_bits-requires
last_bits-requires c = (left _ _ c.requires.0 c.requires.1 c.requires.2, below _ c.requires.1)

pub overflow_add-n : goal.overflow_add-n
overflow_add-n c = record {
  fits = omega (arith, high _ _ c.requires.0 c.requires.1 c.requires.2 c.if-a-eq0.false, bits_small (bits_told _ _ _ c.last_bits.ensures));
}

pub overflow_sub-a : goal.overflow_sub-a
overflow_sub-a c = held_fits (difference _ _ c.requires.0 c.requires.1 c.requires.2) (omega arith)

pub overflow_sub-a-2 : goal.overflow_sub-a-2
overflow_sub-a-2 c = held_fits (exponent _ _ c.requires.0 c.requires.1 c.requires.2) (omega arith)

pub nearest-requires : goal.nearest-requires
nearest-requires c = (
  omega (arith, low _ _ c.requires.0 c.requires.1 c.requires.2 c.if-a-eq0.false),
  omega (arith, held_small (stored (exponent _ _ c.requires.0 c.requires.1 c.requires.2) (omega arith))),
)

pub returns : goal.returns
returns c =
    let a = c.args.a in
    let b = c.args.b in
    let s = c.requires.0 in
    let t = c.requires.1 in
    c.nearest.ensures
    ∙ ap (λ (z : ℤ). nearest 31 (dyadic (4 * (a.m * 4294967296 / b.m) + c.last_bits.result) z)) (stored (exponent _ _ s t c.requires.2) (omega arith)).is
    ∙ nearest_ratio 31 a.m b.m c.last_bits.result (a.e -ℤ b.e) (big a s c.if-a-eq0.false) (below a s)
    (divisor a b s t c.requires.2) (below b t) (bits_told _ _ _ c.last_bits.ensures)
    ∙ exact a b s t c.requires.2
