-- The decimal text of a number is the right one: it reads back as the number, its bytes are digits, and its length is bounded.
-- Assumes nothing.
use Prim.Native.Nat.{ℕ, zero, suc, ◌+◌, ◌*◌, ◌-◌, ◌/◌, ◌%◌, ◌^◌, ◌≤◌, ◌<◌}
use mathlib.Core.List.Memᴰ
use mathlib.Core.List.{List, [], ◌∷◌, ◌++◌, Memᴰ}
use mathlib.Core.Logic.{◌⊎◌, inl, inr, ⊎_elim}
use mathlib.Core.Path.{◌≡◌, refl, ap, ◌∙◌}
use mathlib.Core.Bool.{Bool, true, false, cond}
use borrow.Author.Tests.{ltb-true, ltb-false, ne_eqb}
use native.Mathlib.Nat.{mod-lt, div-eq_of_lt, div-lt_iff_lt-mul, le-div_iff_mul-le, div-lt_self, div-add-mod, pow-suc}
use native.Mathlib.Omega.{arith}
use lib.Dec.{lit<, eqb, ltb}
use lib.IntN.{ℤ, pos, negsuc, neg_ℤ, nat_abs}
use lib.ListN.{length, length-append}
use lib.Signed.{mag, nat_abs-le}
use Rattle.decimal.specs.Decimal.{digit, decimal_digits, decimal, minus_sign, signed}

-- ---- the definition, one digit at a time

-- any bound that is at least n gives the same digits
digits_turns : (j k n : ℕ) → n ≤ j → n ≤ k → decimal_digits j n ≡ decimal_digits k n
unfolding decimal_digits
digits_turns zero zero n a b = refl
digits_turns zero (suc k) zero a b = refl
digits_turns zero (suc k) (suc n) a b = absurd (omega arith)
digits_turns (suc j) zero zero a b = refl
digits_turns (suc j) zero (suc n) a b = absurd (omega arith)
digits_turns (suc j) (suc k) zero a b = refl
digits_turns (suc j) (suc k) (suc n) a b =
    let l : suc n / 10 < suc n = div-lt_self (omega arith) (lit< tt) in
    rw (digits_turns j k (suc n / 10) (omega arith) (omega arith))

digits_decimal : (j n : ℕ) → zero < n → n ≤ j → decimal_digits j n ≡ decimal n
unfolding decimal
digits_decimal j zero p l = absurd (omega arith)
digits_decimal j (suc n) p l = digits_turns j (suc n) (suc n) l (omega arith)

digits_zero : (j : ℕ) → decimal_digits j zero ≡ []
unfolding decimal_digits
digits_zero zero = refl
digits_zero (suc j) = refl

pub decimal_one : (n : ℕ) → n < 10 → decimal n ≡ digit n ∷ []
unfolding decimal decimal_digits
decimal_one zero l = refl
decimal_one (suc n) l =
    let q : suc n / 10 ≡ 0 = div-eq_of_lt l in
    let r : suc n % 10 ≡ suc n = omega (arith, div-add-mod (suc n) 10) in
    rw (q, digits_zero n, r)

pub decimal_more : (n : ℕ) → 10 ≤ n → decimal n ≡ decimal (n / 10) ++ (digit (n % 10) ∷ [])
unfolding decimal decimal_digits
decimal_more zero l = absurd (omega arith)
decimal_more (suc n) l =
    let q : suc n / 10 < suc n = div-lt_self (omega arith) (lit< tt) in
    rw (digits_decimal n (suc n / 10) ((le-div_iff_mul-le {k = 10} {x = 1} {y = suc n} (lit< tt)).1 (omega arith)) (omega arith))

one_or_more : (n : ℕ) → (n < 10) ⊎ (10 ≤ n)
one_or_more n = go (ltb n 10) refl
  where
    go : (b : Bool) → ltb n 10 ≡ b → (n < 10) ⊎ (10 ≤ n)
    go true e = inl (ltb-true n 10 e)
    go false e = inr (ltb-false n 10 e)

-- what holds of the numbers below 10, and of n if it holds of n / 10, holds of all
module _ (P : ℕ → Type 0) (one : (n : ℕ) → n < 10 → P n) (more : (n : ℕ) → 10 ≤ n → P (n / 10) → P n) where
  below : (k n : ℕ) → n < k → P n
  below zero n l = absurd (omega arith)
  below (suc k) n l = ⊎_elim (one n) (λ h. more n h (below k (n / 10) (omega (arith, div-lt_self {n = n} {k = 10} (omega arith) (lit< tt))))) (one_or_more n)

  pub decimal_ind : (n : ℕ) → P n
  decimal_ind n = below (suc n) n (omega arith)

-- ---- reading back

-- the number that a list of digits stands for after the digits of a were read
abbrev pub read_from : ℕ → List ℕ → ℕ
read_from a [] = a
read_from a (b ∷ bytes) = read_from (10 * a + (b - 48)) bytes

read_from_append : (a : ℕ) (s t : List ℕ) → read_from a (s ++ t) ≡ read_from (read_from a s) t
read_from_append a [] t = refl
read_from_append a (b ∷ s) t = read_from_append (10 * a + (b - 48)) s t

-- the decimal text of n reads back as n
pub read_decimal : (n : ℕ) → read_from 0 (decimal n) ≡ n
read_decimal = decimal_ind (λ n. read_from 0 (decimal n) ≡ n)
    (λ n l. rw (decimal_one n l) (omega arith))
    (λ n l ih. rw (decimal_more n l, read_from_append 0 (decimal (n / 10)), ih) (omega (arith, div-add-mod n 10)))

-- ---- its bytes

pub record IsDigit (b : ℕ) : Type 0 where
  pub low : digit 0 ≤ b
  pub high : b ≤ digit 9

-- every byte of it is a digit
pub decimal_digits_lem : (n : ℕ) (b : ℕ) → Memᴰ b (decimal n) → IsDigit b
decimal_digits_lem = decimal_ind (λ n. (b : ℕ) → Memᴰ b (decimal n) → IsDigit b)
    (λ n l b m. one n l b (rw (decimal_one n l) at m))
    (λ n l ih b m. ⊎_elim (ih b) (one (n % 10) (mod-lt n (lit< tt)) b) (Memᴰ.append_cases (decimal (n / 10)) (rw (decimal_more n l) at m)))
  where
    one : (d : ℕ) → d < 10 → (b : ℕ) → Memᴰ b (digit d ∷ []) → IsDigit b
    one d l b m = let e : b ≡ digit d = Memᴰ.eq_of_singleton m in record { low = omega arith; high = omega arith }

-- ---- its length

pub decimal_length : (k n : ℕ) → n < 10 ^ suc k → length (decimal n) ≤ suc k
decimal_length zero n l = rw (decimal_one n (omega arith)) (omega arith)
decimal_length (suc k) n l = ⊎_elim
    (λ s. rw (decimal_one n s) (omega arith))
    (λ h. rw (decimal_more n h, length-append) (omega (arith, decimal_length k (n / 10) ((div-lt_iff_lt-mul {k = 10} {x = n} {y = 10 ^ suc k} (lit< tt)).1 (omega (arith, pow-suc 10 (suc k)))))))
    (one_or_more n)

-- a 64-bit number has at most 20 digits
pub decimal_64 : (n : ℕ) → n < 2 ^ 64 → length (decimal n) ≤ 20
decimal_64 n l = decimal_length 19 n (omega arith)

-- ---- integers

-- a signed text read back: the sign, then the magnitude
abbrev pub read_signed : List ℕ → ℤ
read_signed [] = pos 0
read_signed (b ∷ bytes) = cond (eqb b minus_sign) (neg_ℤ (pos (read_from 0 bytes))) (pos (read_from 0 (b ∷ bytes)))

unsigned : (s : List ℕ) → ((b : ℕ) → Memᴰ b s → IsDigit b) → read_signed s ≡ pos (read_from 0 s)
unsigned [] h = refl
unsigned (b ∷ s) h =
    let d : IsDigit b = h b (Memᴰ.head refl) in
    rw (ne_eqb b minus_sign (λ e. omega arith))

pub read_signed_lem : (z : ℤ) → read_signed (signed z) ≡ z
unfolding signed
read_signed_lem (pos n) = unsigned (decimal n) (decimal_digits_lem n) ∙ ap pos (read_decimal n)
read_signed_lem (negsuc n) = rw (read_decimal (suc n))

-- an integer has at most one byte more than its magnitude
pub signed_length : (k : ℕ) (z : ℤ) → nat_abs z < 10 ^ suc k → length (signed z) ≤ k + 2
unfolding signed
signed_length k (pos n) l = omega (arith, decimal_length k n l)
signed_length k (negsuc n) l = omega (arith, decimal_length k (suc n) l)

-- a 32-bit integer has at most 10 digits and its sign
pub signed_32 : (z : ℤ) → mag z < 2 ^ 31 → length (signed z) ≤ 11
signed_32 z l = signed_length 9 z (omega (arith, nat_abs-le z l))
