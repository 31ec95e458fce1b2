-- Texts put one after the other, the text of a number, a sign and a magnitude. Assumes nothing.
use Prim.Native.Nat.{ℕ, ◌%◌, ◌^◌, ◌<◌}
use mathlib.Core.Bool.{true, false, false≢true}
use mathlib.Core.List.{List, [], ◌∷◌, ◌++◌}
use mathlib.Core.Path.{◌≡◌, sym, ap, ap₂, ◌∙◌}
use borrow.Author.Tests.{ltb-true}
use native.Mathlib.Omega.{arith}
use lib.IntN.{ℤ, pos, negsuc, nat_abs}
use lib.ListN.{length, length-append}
use lib.Seq.{sets}
use lib.Signed.{lt_z}
use mir.Facts.{to_z-of_z}
use mir.Syntax.{w32}
use mir.Val.{SFits, to_z, of_z}
use Rattle.std.specs.Fmt.{decimal as library_decimal}
use Rattle.std.proofs.lemmas.Fmt.{decimal_digit, decimal_step}
use Rattle.decimal.specs.Decimal.{digit, decimal, minus_sign, signed}
use Rattle.decimal.specs.Put.{Puts}
use Rattle.decimal.proofs.DecimalLaws.{decimal_one, decimal_more, decimal_ind}
use Rattle.basics.proofs.SetsLaws.{sets_append}

-- one text, then another
pub then : {i p q : ℕ} {o o₁ o₂ a b : List ℕ} → Puts o i a o₁ p → Puts o₁ p b o₂ q → Puts o i (a ++ b) o₂ q
then {i = i} {o = o} {a = a} {b = b} v w = record {
  out_is = w.out_is ∙ ap₂ (λ (l : List ℕ) (j : ℕ). sets l j b) v.out_is v.next_is ∙ sym (sets_append o i a b);
  next_is = rw (length-append a b) (omega arith);
}

-- ---- a number: its text is that of the library

pub library_text : (n : ℕ) → n < 2 ^ 64 → library_decimal n ≡ decimal n
library_text = decimal_ind (λ n. n < 2 ^ 64 → library_decimal n ≡ decimal n)
    (λ n l b. decimal_digit n l ∙ sym (decimal_one n l))
    (λ n l more b. decimal_step n l b ∙ ap (λ (s : List ℕ). s ++ (digit (n % 10) ∷ [])) (more (omega arith)) ∙ sym (decimal_more n l))

-- ---- a signed number: the sign where it is below 0, and its magnitude

-- a signed argument is handed on as 32 bits and read back
pub held : {z : ℤ} → SFits w32 z → z ≡ to_z w32 (of_z w32 z)
held f = sym (to_z-of_z {w = w32} f)

pub held_length : {z : ℤ} → SFits w32 z → length (signed z) ≡ length (signed (to_z w32 (of_z w32 z)))
held_length f = ap (λ (y : ℤ). length (signed y)) (held f)

module _ {z : ℤ} {size : ℕ} (f : SFits w32 z) (m : size ≡ nat_abs (to_z w32 (of_z w32 z))) where
  pub signed_minus : lt_z (to_z w32 (of_z w32 z)) (pos 0) ≡ true → signed z ≡ minus_sign ∷ decimal size
  unfolding signed
  signed_minus t = go z (rw (← held f) at t) (rw (← held f) at m)
    where
      go : (z : ℤ) → lt_z z (pos 0) ≡ true → size ≡ nat_abs z → signed z ≡ minus_sign ∷ decimal size
      go (pos n) t m = absurd (omega (arith, ltb-true n 0 t))
      go (negsuc n) t m = rw m

  pub signed_plain : lt_z (to_z w32 (of_z w32 z)) (pos 0) ≡ false → signed z ≡ decimal size
  unfolding signed
  signed_plain t = go z (rw (← held f) at t) (rw (← held f) at m)
    where
      go : (z : ℤ) → lt_z z (pos 0) ≡ false → size ≡ nat_abs z → signed z ≡ decimal size
      go (pos n) t m = rw m
      go (negsuc n) t m = absurd (false≢true (sym t))
