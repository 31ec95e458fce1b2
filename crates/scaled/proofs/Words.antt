-- How the code judges a half, for words of any length h + 1: in a double word with its highest digit at the top, and in a quotient that goes on with two bits of its rest. Assumes nothing.
use mathlib.Core.Path.{◌≡◌, refl, sym, ap, ap₂, ◌∙◌, subst}
use mathlib.Core.Logic.{⊎_elim}
use Prim.Native.Nat.{ℕ, zero, suc, ◌+◌, ◌*◌, ◌/◌, ◌%◌, ◌^◌, ◌≤◌, ◌<◌}
use native.Mathlib.Nat.{mul-le-mul_right, eq_of_mul-eq-mul_right, mul-pos, div-add-mod', div-mul-le_self}
use native.Mathlib.Nat.{lt-div-mul-add, le-div_iff_mul-le, div-lt_iff_lt-mul, mod-lt, eq-zero-or-pos, pow-suc, zero-mul}
use native.Mathlib.Omega.{arith}
use lib.IntN.{ℤ, pos, neg_ℤ, sub_ℕ, ◌+ℤ◌, ◌-ℤ◌, +ℤ_assoc}
use lib.Pow.{pow_pos, pow-add}
use borrow.Author.Tests.{lt-ltb, le-ltb}
use Rattle.scaled.specs.Scaled.{dyadic, carried, upward, to_nearest, nearest}
use Rattle.scaled.proofs.Signed32.{order}
use Rattle.scaled.proofs.Differences.{sub_eq, sub_add, neg_pos, pos_sub}
use Rattle.scaled.proofs.CutLaws.{Cuts, long_cuts}
use Rattle.scaled.proofs.Mantissas.{quotient_low}
use Rattle.scaled.proofs.Ties.{Side, stays, rises, parity, upward_side, side_moved, nearest_is}

-- ---- a double word

-- r is what is chosen, told by four facts on the rest of a unit 2 H
pub judged_is : (x H r : ℕ) → (x % (2 * H) < H → r ≡ x / (2 * H)) → (x % (2 * H) ≡ H → x / (2 * H) % 2 ≡ 0 → r ≡ x / (2 * H))
    → (x % (2 * H) ≡ H → x / (2 * H) % 2 ≡ 1 → r ≡ x / (2 * H) + 1) → (H < x % (2 * H) → r ≡ x / (2 * H) + 1)
    → r ≡ x / (2 * H) + upward (x / (2 * H)) (x % (2 * H)) (2 * H)
unfolding upward
judged_is x H r below even odd above = ⊎_elim (λ l. ⊎_elim (λ g. at (omega arith)) over (order (x % (2 * H)) H)) under (order H (x % (2 * H)))
  where
    under : x % (2 * H) < H → r ≡ x / (2 * H) + upward (x / (2 * H)) (x % (2 * H)) (2 * H)
    under l = rw (lt-ltb (2 * (x % (2 * H))) (2 * H) (omega arith)) (omega (arith, below l))

    at : x % (2 * H) ≡ H → r ≡ x / (2 * H) + upward (x / (2 * H)) (x % (2 * H)) (2 * H)
    at e = rw (le-ltb (2 * (x % (2 * H))) (2 * H) (omega arith), le-ltb (2 * H) (2 * (x % (2 * H))) (omega arith))
        (parity (x / (2 * H)) (λ z. omega (arith, even e z)) (λ o. omega (arith, odd e o)))

    over : H < x % (2 * H) → r ≡ x / (2 * H) + upward (x / (2 * H)) (x % (2 * H)) (2 * H)
    over l = rw (le-ltb (2 * (x % (2 * H))) (2 * H) (omega arith), lt-ltb (2 * H) (2 * (x % (2 * H))) (omega arith)) (above l)

-- t × 2^e where t, moved up by z places, fills a double word
module _ (h t z : ℕ) (e : ℤ) (lo : 2 ^ h * (2 * 2 ^ h) ≤ t * 2 ^ z) (hi : t * 2 ^ z < 2 * 2 ^ h * (2 * 2 ^ h)) where
  abbrev x : ℕ
  x = t * 2 ^ z

  abbrev u : ℕ
  u = upward (x / (2 * 2 ^ h)) (x % (2 * 2 ^ h)) (2 * 2 ^ h)

  unit_pos : 0 < 2 * 2 ^ h
  unit_pos = omega (arith, pow_pos h)

  t_pos : (t : ℕ) → 2 ^ h * (2 * 2 ^ h) ≤ t * 2 ^ z → 0 < t
  t_pos zero l = absurd (omega (arith, mul-pos (pow_pos h) (pow_pos h), zero-mul (2 ^ z)))
  t_pos (suc t) l = omega arith

  pub nearest_word : to_nearest h (t * 2 ^ z) (2 * 2 ^ h) (e +ℤ sub_ℕ (suc h) z) ≡ nearest h (dyadic t e)
  nearest_word =
      nearest_is h (x / (2 * 2 ^ h)) (suc h) z t 1 u e (t_pos t lo) (omega arith)
      (record {
        lo = (le-div_iff_mul-le unit_pos).1 lo;
        hi = (div-lt_iff_lt-mul unit_pos).1 hi;
        le = rw (pow-suc 2 h) (omega (arith, div-mul-le_self x (2 * 2 ^ h)));
        lt = rw (pow-suc 2 h) (omega (arith, lt-div-mul-add {a = x} {b = 2 * 2 ^ h} unit_pos));
      })
      (side_moved (x / (2 * 2 ^ h)) x (2 * 2 ^ h) x (2 ^ suc h * 1) u 1 1 (omega arith) (omega arith) refl (rw (pow-suc 2 h) (omega arith)) (upward_side x (2 * 2 ^ h)))

-- ---- a last bit that tells whether anything is left

-- x lies on the same side of every 2 c as 2 X / d
record Sticky (X d x : ℕ) : Type 0 where
  pub below : (c : ℕ) → X < c * d → x < 2 * c
  pub at : (c : ℕ) → X ≡ c * d → x ≡ 2 * c
  pub above : (c : ℕ) → c * d < X → 2 * c < x

module _ {X d x : ℕ} (w : Sticky X d x) (c : ℕ) where
  from_le : 2 * c ≤ x → c * d ≤ X
  from_le l = ⊎_elim (λ g. g) (λ g. absurd (omega (arith, w.below c g))) (order (c * d) X)

  from_lt : x < 2 * c → X < c * d
  from_lt l = ⊎_elim (λ g. absurd (⊎_elim (λ k. omega (arith, w.at c (omega arith))) (λ k. omega (arith, w.above c k)) (order X (c * d)))) (λ g. g) (order (c * d) X)

  from_ge : x ≤ 2 * c → X ≤ c * d
  from_ge l = ⊎_elim (λ g. g) (λ g. absurd (omega (arith, w.above c g))) (order X (c * d))

  from_gt : 2 * c < x → c * d < X
  from_gt l = ⊎_elim (λ g. absurd (⊎_elim (λ k. omega (arith, w.at c (omega arith))) (λ k. omega (arith, w.below c k)) (order (c * d) X))) (λ g. g) (order X (c * d))

-- the digits of x are those of p / q, and the half is judged alike
module _ (h m k x p q n u : ℕ) (w : Sticky (p * 2 ^ n) q x) where
  four : 2 ^ suc (suc k) ≡ 4 * 2 ^ k
  four = pow-suc 2 (suc k) ∙ ap (λ (y : ℕ). y * 2) (pow-suc 2 k) ∙ omega arith

  two : 2 ^ suc n ≡ 2 * 2 ^ n
  two = pow-suc 2 n ∙ omega arith

  sticky_cuts : Cuts h m (suc (suc k)) 0 x 1 → Cuts h m (suc (suc k)) (suc n) p q
  sticky_cuts v = record {
    lo = v.lo;
    hi = v.hi;
    le = rw (four, two) (omega (arith, from_le w (m * (2 * 2 ^ k)) (omega (arith, rw four at v.le))));
    lt = rw (four, two) (omega (arith, from_lt w (suc m * (2 * 2 ^ k)) (omega (arith, rw four at v.lt))));
  }

  sticky_side : Side m (x * 2 ^ 0) (2 ^ suc (suc k) * 1) u → Side m (p * 2 ^ suc n) (2 ^ suc (suc k) * q) u
  sticky_side (stays e a b) =
      stays e (rw (four, two) (omega (arith, from_ge w (suc (2 * m) * 2 ^ k) (omega (arith, rw four at a)))))
      (λ o. rw (four, two) (omega (arith, from_lt w (suc (2 * m) * 2 ^ k) (omega (arith, rw four at (b o))))))
  sticky_side (rises e a b) =
      rises e (rw (four, two) (omega (arith, from_le w (suc (2 * m) * 2 ^ k) (omega (arith, rw four at a)))))
      (λ o. rw (four, two) (omega (arith, from_gt w (suc (2 * m) * 2 ^ k) (omega (arith, rw four at (b o))))))

-- x with h + 3 digits or more serves for p / q
nearest_sticky : (h p q n y : ℕ) (z : ℤ) → 0 < p → 0 < q → Sticky (p * 2 ^ n) q y → 2 ^ (h + 2) ≤ y
    → nearest h (dyadic y (z -ℤ pos (suc n))) ≡ nearest h (record { p = p; q = q; z = z })
nearest_sticky h p q n y z pp qp w big = go (long_cuts h 2 y big)
  where
    go : (k : ℕ) × (2 ≤ k) × Cuts h (y / 2 ^ k) k 0 y 1 → nearest h (dyadic y (z -ℤ pos (suc n))) ≡ nearest h (record { p = p; q = q; z = z })
    go (zero, l, v) = absurd (omega arith)
    go (suc zero, l, v) = absurd (omega arith)
    go (suc (suc k), l, v) = by (y / 2 ^ suc (suc k)) (upward (y / 2 ^ suc (suc k)) (y % 2 ^ suc (suc k)) (2 ^ suc (suc k))) v (upward_side y (2 ^ suc (suc k)))
      where
        exponents : z -ℤ pos (suc n) +ℤ sub_ℕ (suc (suc k)) 0 ≡ z +ℤ sub_ℕ (suc (suc k)) (suc n)
        exponents =
            +ℤ_assoc z (neg_ℤ (pos (suc n))) (sub_ℕ (suc (suc k)) 0)
            ∙ ap (λ (y : ℤ). z +ℤ y)
            (ap (λ (y : ℤ). y +ℤ sub_ℕ (suc (suc k)) 0) (neg_pos (suc n)) ∙ sub_add 0 (suc n) (suc (suc k)) 0
            ∙ sub_eq (0 + suc (suc k)) (suc n + 0) (suc (suc k)) (suc n) (omega arith))

        by : (m u : ℕ) → Cuts h m (suc (suc k)) 0 y 1 → Side m y (2 ^ suc (suc k)) u → nearest h (dyadic y (z -ℤ pos (suc n))) ≡ nearest h (record { p = p; q = q; z = z })
        by m u v c =
            sym (nearest_is h m (suc (suc k)) 0 y 1 u (z -ℤ pos (suc n)) (omega (arith, big, pow_pos (h + 2))) (omega arith) v side)
            ∙ ap (carried h (m + u)) exponents
            ∙ nearest_is h m (suc (suc k)) (suc n) p q u z pp qp (sticky_cuts h m k y p q n u w v) (sticky_side h m k y p q n u w side)
          where
            side : Side m (y * 2 ^ 0) (2 ^ suc (suc k) * 1) u
            side = side_moved m y (2 ^ suc (suc k)) (y * 2 ^ 0) (2 ^ suc (suc k) * 1) u 1 1 (omega arith) (omega arith) (omega arith) (omega arith) c

-- ---- the rest of a quotient

-- what two bits b tell of a rest r of the divisor d
pub data Bits (r d b : ℕ) : Type 0 where
  nothing : r ≡ 0 → b ≡ 0 → Bits r d b
  less : 0 < r → 2 * r < d → b ≡ 1 → Bits r d b
  half : 2 * r ≡ d → b ≡ 2 → Bits r d b
  more : d < 2 * r → b ≡ 3 → Bits r d b

-- told by four facts
pub bits_told : (r d b : ℕ) → (r ≡ 0 → b ≡ 0) × (0 < r → 2 * r < d → b ≡ 1) × (2 * r ≡ d → b ≡ 2) × (d < 2 * r → b ≡ 3) → Bits r d b
bits_told r d b f =
    ⊎_elim (λ l. ⊎_elim (λ g. half (omega arith) (f.2 (omega arith))) (λ g. more g (f.3 g)) (order (2 * r) d))
    (λ l. ⊎_elim (λ z. nothing z (f.0 z)) (λ p. less p l (f.1 p l)) (eq-zero-or-pos r)) (order d (2 * r))

-- two bits are at most 3
pub bits_small : {r d b : ℕ} → Bits r d b → b ≤ 3
bits_small (nothing a e) = omega arith
bits_small (less a s e) = omega arith
bits_small (half a e) = omega arith
bits_small (more a e) = omega arith

-- q is the quotient and r the rest: 4 q and the two bits are sticky for twice the dividend
bits_sticky : (q r d b : ℕ) → r < d → Bits r d b → Sticky (2 * (q * d + r)) d (4 * q + b)
bits_sticky q r d b l w = record { below = under w; at = equal w; above = over w }
  where
    -- c is at most 2 q, 2 q + 1, or more
    parts : (c : ℕ) (A : Type 0) → (c * d ≤ 2 * q * d → c ≤ 2 * q → A) → (c * d ≡ 2 * q * d + d → c ≡ 2 * q + 1 → A)
        → (2 * q * d + 2 * d ≤ c * d → 2 * q + 2 ≤ c → A) → A
    parts c A f g k =
        ⊎_elim (λ a. f (mul-le-mul_right d a) a)
        (λ a.
        ⊎_elim (λ e. g (ap (λ (y : ℕ). y * d) (let s : c ≡ 2 * q + 1 = omega arith in s) ∙ omega arith) (omega arith))
        (λ e. k (omega (arith, mul-le-mul_right {m = 2 * q + 2} {n = c} d (omega arith))) (omega arith)) (order c (2 * q + 1)))
        (order c (2 * q))

    same : (c : ℕ) → c * d ≡ 2 * q * d → c ≡ 2 * q
    same c e = eq_of_mul-eq-mul_right d (omega arith) c (2 * q) e

    under : Bits r d b → (c : ℕ) → 2 * (q * d + r) < c * d → 4 * q + b < 2 * c
    under (nothing a e) c k = parts c _ (λ f g. absurd (omega arith)) (λ f g. omega arith) (λ f g. omega arith)
    under (less a s e) c k = parts c _ (λ f g. absurd (omega arith)) (λ f g. omega arith) (λ f g. omega arith)
    under (half a e) c k = parts c _ (λ f g. absurd (omega arith)) (λ f g. absurd (omega arith)) (λ f g. omega arith)
    under (more a e) c k = parts c _ (λ f g. absurd (omega arith)) (λ f g. absurd (omega arith)) (λ f g. omega arith)

    equal : Bits r d b → (c : ℕ) → 2 * (q * d + r) ≡ c * d → 4 * q + b ≡ 2 * c
    equal (nothing a e) c k = omega (arith, same c (omega arith))
    equal (less a s e) c k = parts c _ (λ f g. absurd (omega arith)) (λ f g. absurd (omega arith)) (λ f g. absurd (omega arith))
    equal (half a e) c k = parts c _ (λ f g. absurd (omega arith)) (λ f g. omega arith) (λ f g. absurd (omega arith))
    equal (more a e) c k = parts c _ (λ f g. absurd (omega arith)) (λ f g. absurd (omega arith)) (λ f g. absurd (omega arith))

    over : Bits r d b → (c : ℕ) → c * d < 2 * (q * d + r) → 2 * c < 4 * q + b
    over (nothing a e) c k =
        parts c _
        (λ f g. ⊎_elim (λ y. absurd (omega (arith, ap (λ (v : ℕ). v * d) (let s : c ≡ 2 * q = omega arith in s)))) (λ y. omega arith) (order (2 * q) c))
        (λ f g. absurd (omega arith)) (λ f g. absurd (omega arith))
    over (less a s e) c k = parts c _ (λ f g. omega arith) (λ f g. absurd (omega arith)) (λ f g. absurd (omega arith))
    over (half a e) c k = parts c _ (λ f g. omega arith) (λ f g. absurd (omega arith)) (λ f g. absurd (omega arith))
    over (more a e) c k = parts c _ (λ f g. omega arith) (λ f g. omega arith) (λ f g. absurd (omega arith))

-- one division of two mantissas, the first with h + 1 digits put to it
pub nearest_ratio : (h m1 m2 b : ℕ) (z : ℤ) → 2 ^ h ≤ m1 → m1 < 2 * 2 ^ h → 2 ^ h ≤ m2 → m2 < 2 * 2 ^ h → Bits (m1 * 2 ^ suc h % m2) m2 b
    → nearest h (dyadic (4 * (m1 * 2 ^ suc h / m2) + b) (z -ℤ pos (suc (suc (suc h))))) ≡ nearest h (record { p = m1; q = m2; z = z })
nearest_ratio h m1 m2 b z l1 h1 l2 h2 w =
    nearest_sticky h m1 m2 (suc (suc h)) (4 * (m1 * 2 ^ suc h / m2) + b) z (omega (arith, pow_pos h)) pos_2
    (subst (λ (X : ℕ). Sticky X m2 (4 * (m1 * 2 ^ suc h / m2) + b)) twice
    (bits_sticky (m1 * 2 ^ suc h / m2) (m1 * 2 ^ suc h % m2) m2 b (mod-lt (m1 * 2 ^ suc h) pos_2) w))
    (rw (pow-add 2 h 2) (omega (arith, quotient_low h m1 m2 l1 h1 l2 h2)))
  where
    pos_2 : 0 < m2
    pos_2 = omega (arith, pow_pos h)

    twice : 2 * (m1 * 2 ^ suc h / m2 * m2 + m1 * 2 ^ suc h % m2) ≡ m1 * 2 ^ suc (suc h)
    twice = ap (λ (y : ℕ). 2 * y) (div-add-mod' (m1 * 2 ^ suc h) m2) ∙ sym (rw (pow-suc 2 (suc h)) (omega arith))

-- ---- exponents

pub up_down : (e : ℤ) (a b : ℕ) → e +ℤ pos a -ℤ pos b ≡ e +ℤ sub_ℕ a b
up_down e a b =
    +ℤ_assoc e (pos a) (neg_ℤ (pos b))
    ∙ ap (λ (y : ℤ). e +ℤ y) (ap₂ (λ (x y : ℤ). x +ℤ y) (pos_sub a) (neg_pos b) ∙ sub_add a 0 0 b ∙ sub_eq (a + 0) (0 + b) a b (omega arith))
