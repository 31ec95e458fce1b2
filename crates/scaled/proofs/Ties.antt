-- The choice between the digits m and the next higher number, for words of any length h + 1: whoever judges the half right finds what `nearest` gives. Assumes nothing.
use mathlib.Core.Path.{◌≡◌, refl, sym, ap, ap₂, ◌∙◌, subst}
use mathlib.Core.Logic.{⊎_elim}
use Prim.Native.Nat.{ℕ, suc, ◌+◌, ◌*◌, ◌/◌, ◌%◌, ◌^◌, ◌≤◌, ◌<◌}
use native.Mathlib.Nat.{mul-le-mul_right, mul-lt-mul_of_pos_right, le_of_mul-le-mul_right, lt_of_mul-lt-mul_right, le-div_iff_mul-le, div-add-mod', mul-pos}
use native.Mathlib.Omega.{arith}
use lib.IntN.{ℤ, pos, neg_ℤ, sub_ℕ, ◌+ℤ◌, ◌-ℤ◌, +ℤ_assoc}
use lib.Pow.{pow_pos, pow-add}
use borrow.Author.Tests.{eq-eqb, ne_eqb, lt-ltb, le-ltb}
use Rattle.scaled.specs.Scaled.{zero_number, ranged, carried, upward, places, beyond, nearest}
use Rattle.std.specs.Prelude.{Some}
use Rattle.scaled.proofs.Signed32.{order}
use Rattle.scaled.proofs.Differences.{sub_pos, sub_eq, sub_add, neg_pos}
use Rattle.scaled.proofs.CutLaws.{Cuts, powers, whole_cuts, same_place, same_digits, leading_cuts}

-- X / U has the digits m before the point: u is put to them, 0 where m is the nearer one and 1 where m + 1 is; the middle goes to the even one
pub data Side (m X U u : ℕ) : Type 0 where
  stays : u ≡ 0 → 2 * X ≤ suc (2 * m) * U → (m % 2 ≡ 1 → 2 * X < suc (2 * m) * U) → Side m X U u
  rises : u ≡ 1 → suc (2 * m) * U ≤ 2 * X → (m % 2 ≡ 0 → suc (2 * m) * U < 2 * X) → Side m X U u

pub parity {ℓ} : {A : Type ℓ} (m : ℕ) → (m % 2 ≡ 0 → A) → (m % 2 ≡ 1 → A) → A
parity m f g = ⊎_elim (λ l. f (omega arith)) (λ l. g (omega arith)) (order (m % 2) 0)

-- the side is fixed
side_unique : (m X U u v : ℕ) → Side m X U u → Side m X U v → u ≡ v
side_unique m X U u v (stays a b c) (stays d e f) = omega arith
side_unique m X U u v (rises a b c) (rises d e f) = omega arith
side_unique m X U u v (stays a b c) (rises d e f) = absurd (parity m (λ z. omega (arith, f z)) (λ o. omega (arith, c o)))
side_unique m X U u v (rises a b c) (stays d e f) = absurd (parity m (λ z. omega (arith, c z)) (λ o. omega (arith, f o)))

-- the same fraction written otherwise
pub side_moved : (m X U X' U' u a b : ℕ) → 0 < a → 0 < b → X * a ≡ X' * b → U * a ≡ U' * b → Side m X U u → Side m X' U' u
side_moved m X U X' U' u a b pa pb x y (stays c l k) =
    stays c
    (le_of_mul-le-mul_right (omega (arith, mul-le-mul_right a l, ap (λ (n : ℕ). suc (2 * m) * n) y)) pb)
    (λ o. lt_of_mul-lt-mul_right b (omega (arith, mul-lt-mul_of_pos_right (k o) pa, ap (λ (n : ℕ). suc (2 * m) * n) y)))
side_moved m X U X' U' u a b pa pb x y (rises c l k) =
    rises c
    (le_of_mul-le-mul_right (omega (arith, mul-le-mul_right a l, ap (λ (n : ℕ). suc (2 * m) * n) y)) pb)
    (λ o. lt_of_mul-lt-mul_right b (omega (arith, mul-lt-mul_of_pos_right (k o) pa, ap (λ (n : ℕ). suc (2 * m) * n) y)))

-- the rest of a division, judged against half the divisor
pub upward_side : (X U : ℕ) → Side (X / U) X U (upward (X / U) (X % U) U)
unfolding upward
upward_side X U = ⊎_elim least less (order U (2 * (X % U)))
  where
    split : X / U * U + X % U ≡ X
    split = div-add-mod' X U

    less : 2 * (X % U) < U → Side (X / U) X U (upward (X / U) (X % U) U)
    less l = rw (lt-ltb (2 * (X % U)) U l) (stays refl (omega (arith, split)) (λ o. omega (arith, split)))

    least : U ≤ 2 * (X % U) → Side (X / U) X U (upward (X / U) (X % U) U)
    least l = ⊎_elim tie more (order (2 * (X % U)) U)
      where
        more : U < 2 * (X % U) → Side (X / U) X U (upward (X / U) (X % U) U)
        more g = rw (le-ltb (2 * (X % U)) U l, lt-ltb U (2 * (X % U)) g) (rises refl (omega (arith, split)) (λ o. omega (arith, split)))

        tie : 2 * (X % U) ≤ U → Side (X / U) X U (upward (X / U) (X % U) U)
        tie g =
            rw (le-ltb (2 * (X % U)) U l, le-ltb U (2 * (X % U)) g)
            (parity (X / U) (λ z. stays z (omega (arith, split)) (λ o. absurd (omega arith))) (λ o. rises o (omega (arith, split)) (λ z. absurd (omega arith))))

-- THE law: digits m that stand right, and the half judged right, are the result
pub nearest_is : (h m s t p q u : ℕ) (z : ℤ) → 0 < p → 0 < q → Cuts h m s t p q → Side m (p * 2 ^ t) (2 ^ s * q) u
    → carried h (m + u) (z +ℤ sub_ℕ s t) ≡ nearest h (record { p = p; q = q; z = z })
unfolding nearest
nearest_is h m s t p q u z pp qp w c = rw (ne_eqb p 0 (λ n. omega arith)) (ap₂ (carried h) (ap₂ (λ (x y : ℕ). x + y) digits_same side_same) exponents)
  where
    n : ℕ
    n = places h q

    k : ℕ
    k = beyond h p q

    X : ℕ
    X = p * 2 ^ places h q

    U : ℕ
    U = q * 2 ^ beyond h p q

    v : Cuts h (X / U) k n p q
    v = leading_cuts h p q pp qp

    digits_same : m ≡ X / U
    digits_same = same_digits h m s t _ _ _ p q w v

    place_same : s + n ≡ k + t
    place_same = same_place h m s t _ _ _ p q w v

    power : 2 ^ s * 2 ^ n ≡ 2 ^ k * 2 ^ t
    power = sym (pow-add 2 s n) ∙ ap (λ (i : ℕ). 2 ^ i) place_same ∙ pow-add 2 k t

    side_same : u ≡ upward (X / U) (X % U) U
    side_same =
        side_unique (X / U) X U u (upward (X / U) (X % U) U)
        (side_moved (X / U) (p * 2 ^ t) (2 ^ s * q) X U u (2 ^ n) (2 ^ t) (pow_pos n) (pow_pos t) (omega arith) (omega (arith, ap (λ (i : ℕ). q * i) power))
        (subst (λ (i : ℕ). Side i (p * 2 ^ t) (2 ^ s * q) u) digits_same c))
        (upward_side X U)

    exponents : z +ℤ sub_ℕ s t ≡ z -ℤ pos n +ℤ pos k
    exponents =
        ap (λ (e : ℤ). z +ℤ e)
        (sub_eq s t (0 + k) (n + 0) (omega (arith, place_same))
        ∙ sym (ap₂ (λ (x y : ℤ). x +ℤ y) (neg_pos n) (sym (sub_pos k 0 k (omega arith))) ∙ sub_add 0 n k 0))
        ∙ sym (+ℤ_assoc z (neg_ℤ (pos n)) (pos k))

pub nearest_zero : (h p q : ℕ) (z : ℤ) → p ≡ 0 → Some zero_number ≡ nearest h (record { p = p; q = q; z = z })
unfolding nearest
nearest_zero h p q z e = simp (eq-eqb p 0 e)

-- the side at other places
pub side_placed : (m s t p q w u v k j : ℕ) → k + v + t ≡ u + s + j → Side m (p * 2 ^ t) (2 ^ s * q) w → Side m (p * 2 ^ u * 2 ^ j) (2 ^ k * (q * 2 ^ v)) w
side_placed m s t p q w u v k j e c =
    side_moved m (p * 2 ^ t) (2 ^ s * q) (p * 2 ^ u * 2 ^ j) (2 ^ k * (q * 2 ^ v)) w (2 ^ u * 2 ^ j) (2 ^ t) (mul-pos (pow_pos u) (pow_pos j)) (pow_pos t) (omega arith)
    (omega (arith, ap (λ (n : ℕ). q * n) (powers u v s t k j e))) c

-- ---- whole numbers

-- an r below the next binade stays as it is
pub carried_kept : (h r : ℕ) (e : ℤ) → r < 2 * 2 ^ h → carried h r e ≡ ranged r e
unfolding carried
carried_kept h r e l = simp (ne_eqb r (2 * 2 ^ h) (λ z. omega arith))

-- a rest below half leaves m
pub nearest_kept : (h k x m : ℕ) (z : ℤ) → x / 2 ^ k ≡ m → 2 ^ h ≤ m → m < 2 * 2 ^ h → 2 * (x % 2 ^ k) < 2 ^ k
    → ranged m (z +ℤ pos k) ≡ nearest h (record { p = x; q = 1; z = z })
nearest_kept h k x m z e lo hi l =
    sym (carried_kept h m (z +ℤ pos k) hi)
    ∙ ap₂ (carried h) (let f : m ≡ x / 2 ^ k + 0 = omega arith in f) (ap (λ (y : ℤ). z +ℤ y) (sym (sub_pos k 0 k (omega arith))))
    ∙ nearest_is h (x / 2 ^ k) k 0 x 1 0 z positive (omega arith) (whole_cuts h k x lo_is (rw e hi)) (stays refl (omega (arith, split)) (λ o. omega (arith, split)))
  where
    split : x / 2 ^ k * 2 ^ k + x % 2 ^ k ≡ x
    split = div-add-mod' x (2 ^ k)

    lo_is : 2 ^ h ≤ x / 2 ^ k
    lo_is = rw e lo

    positive : 0 < x
    positive = omega (arith, (le-div_iff_mul-le (pow_pos k)).0 lo_is, mul-pos (pow_pos h) (pow_pos k))
