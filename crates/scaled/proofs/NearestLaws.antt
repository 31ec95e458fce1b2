-- Request R-4's sentence, for e of any size and words of any length from two digits on: what `nearest` takes is nearest, of two equally near the
-- even one, and it gives none exactly where that e is outside the range. Assumes nothing.
use mathlib.Core.Path.{◌≡◌, refl, sym, ap, ap₂, ◌∙◌, subst, subst⁻¹}
use mathlib.Core.Logic.{◌≢◌, ◌⊎◌, inl, inr, ⊎_elim}
use mathlib.Core.Bool.{Bool, true, false, cond}
use Prim.Native.Nat.{ℕ, zero, suc, ◌+◌, ◌-◌, ◌*◌, ◌%◌, ◌^◌, ◌≤◌, ◌<◌}
use native.Mathlib.Nat.{mul-pos, mul-le-mul_right, mul-lt-mul_of_pos_right, le_of_mul-le-mul_right, eq_of_mul-eq-mul_right, pow-suc}
use native.Mathlib.Omega.{arith}
use lib.IntN.{ℤ, pos, sub_ℕ, ◌+ℤ◌, ◌-ℤ◌}
use lib.Dec.{eqb}
use lib.Signed.{lt_z}
use lib.Pow.{pow_pos, pow-add}
use borrow.Author.Tests.{eq-eqb, ne_eqb}
use Rattle.scaled.specs.declared.Scaled.{Scaled}
use Rattle.std.specs.Prelude.{Option, None}
use Rattle.scaled.specs.Scaled.{Exact, is_scaled_at, of_scaled, nearest, aligned_sum, exact_sum, exact_product, exact_quotient, rounded_sum, rounded_product, rounded_quotient}
use Rattle.scaled.specs.Scaled.{zero_number, top_bit, is_scaled, sum_of, product_of, quotient_of}
use Rattle.scaled.specs.Units.{one, val, NoneExactly}
use Rattle.scaled.specs.Nearest.{distance, CountedFrom, Nearest, NearestInRange, RoundedToNearest}
use Rattle.scaled.proofs.Signed32.{order}
use Rattle.scaled.proofs.Differences.{sub_add, sub_inj, pos_sub, differs}
use Rattle.scaled.proofs.CutLaws.{Cuts, following}
use Rattle.scaled.proofs.Ties.{Side, stays, rises, side_moved, nearest_zero}
use Rattle.scaled.proofs.Neighbours.{Normal, kept, carry, normal_value, normal_lo, normal_hi, Chosen, chosen}
use Rattle.scaled.proofs.Forms.{some_m, first_refused, second_refused, both_scaled}
use Rattle.scaled.proofs.Values.{val_pos}
use Rattle.scaled.proofs.Laws as laws

-- ---- distances

distance_scale : (x y c : ℕ) → distance (x * c) (y * c) ≡ distance x y * c
distance_scale x y c = ⊎_elim (λ l. at (y - x) (distance x y) (omega arith) (omega arith)) (λ l. off (x - y) (distance x y) (omega arith) (omega arith)) (order x y)
  where
    at : (n d : ℕ) → y ≡ x + n → d ≡ n → distance (x * c) (y * c) ≡ d * c
    at n d e f = rw (e, f) (omega arith)

    off : (n d : ℕ) → x ≡ y + n → d ≡ n → distance (x * c) (y * c) ≡ d * c
    off n d e f = rw (e, f) (omega arith)

same_low : (a c v : ℕ) → c ≤ a → v ≤ a → distance a c ≡ distance a v → c ≡ v
same_low a c v l k d = omega arith

same_high : (a c v : ℕ) → a ≤ c → a ≤ v → distance a c ≡ distance a v → c ≡ v
same_high a c v l k d = omega arith

across : (a c v : ℕ) → c ≤ a → a ≤ v → distance a v ≡ distance a c → c + v ≡ 2 * a
across a c v l k d = omega arith

-- A lies between m B and (m + 1) B, and C not strictly between them: the one that is chosen is not farther
module _ (m A B C u : ℕ) (lo : m * B ≤ A) (hi : A < suc m * B) (out : (C ≤ m * B) ⊎ (suc m * B ≤ C)) (c : Side m A B u) where
  not_farther : distance A ((m + u) * B) ≤ distance A C
  not_farther = go c
    where
      go : Side m A B u → distance A ((m + u) * B) ≤ distance A C
      go (stays e l k) = rw e (⊎_elim (λ o. omega arith) (λ o. omega arith) out)
      go (rises e l k) = rw e (⊎_elim (λ o. omega arith) (λ o. omega arith) out)

  -- where another is as far, the chosen one is even
  as_far : distance A C ≡ distance A ((m + u) * B) → (C ≡ (m + u) * B → ⊥) → (m + u) % 2 ≡ 0
  as_far d n = go c
    where
      go : Side m A B u → (m + u) % 2 ≡ 0
      go (stays e l k) = ⊎_elim (λ o. absurd (n (same_low A C ((m + u) * B) (omega arith) v d))) high out
        where
          v : (m + u) * B ≤ A
          v = rw e (omega arith)

          high : suc m * B ≤ C → (m + u) % 2 ≡ 0
          high o =
              let f : (m + u) * B + C ≡ 2 * A = across A ((m + u) * B) C v (omega arith) d in
              let g : m * B + C ≡ 2 * A = omega (arith, f, ap (λ (y : ℕ). y * B) e) in
              ⊎_elim (λ y. omega arith) (λ y. absurd (omega (arith, k (omega arith), g))) (order (m % 2) 0)
      go (rises e l k) = ⊎_elim low (λ o. absurd (n (same_high A C ((m + u) * B) (omega arith) v d))) out
        where
          v : A ≤ (m + u) * B
          v = rw e (omega arith)

          low : C ≤ m * B → (m + u) % 2 ≡ 0
          low o =
              let f : C + (m + u) * B ≡ 2 * A = across A C ((m + u) * B) (omega arith) v (sym d) in
              let g : C + suc m * B ≡ 2 * A = omega (arith, f, ap (λ (y : ℕ). y * B) e) in
              ⊎_elim (λ y. absurd (omega (arith, k (omega arith), g))) (λ y. omega arith) (order (m % 2) 0)

-- 2^h is even for words of more than one digit
power_even : (h : ℕ) → 0 < h → 2 ^ h % 2 ≡ 0
power_even zero l = absurd (omega arith)
power_even (suc h) l = rw (pow-suc 2 h) (omega arith)

-- ---- e of any size

-- where e is z + (k - t), and both are counted from w
counts : (z e w : ℤ) (k t i j : ℕ) → e ≡ z +ℤ sub_ℕ k t → z ≡ w +ℤ pos i → e ≡ w +ℤ pos j → j + t ≡ i + k
counts z e w k t i j f g l =
    let d = differs w in
    let a = d.0 in
    let b = d.1 in
    let up : (n : ℕ) → w +ℤ pos n ≡ sub_ℕ (a + n) (b + 0) = λ n. ap₂ (λ (x y : ℤ). x +ℤ y) d.2 (pos_sub n) ∙ sub_add a b n 0 in
    let m = sub_inj (a + j) (b + 0) (a + i + k) (b + 0 + t) (sym (up j) ∙ sym l ∙ f ∙ ap (λ (y : ℤ). y +ℤ sub_ℕ k t) (g ∙ up i) ∙ sub_add (a + i) (b + 0) k t) in
    omega arith

module _ (h m s t p q u : ℕ) (w : Cuts h m s t p q) (qp : 0 < q) (c : Side m (p * 2 ^ t) (2 ^ s * q) u) (r k : ℕ) (n : Normal h m u s r k) (z : ℤ) where
  module _ (m' : ℕ) (e' : ℤ) (i j l : ℕ) (hi' : m' < 2 * 2 ^ h) (v : CountedFrom z (z +ℤ sub_ℕ k t) e' i j l) where
    places_are : j + t ≡ i + k
    places_are = counts z (z +ℤ sub_ℕ k t) v.w k t i j refl v.z_is v.e_is

    -- everything times 2^t: the exact value, one unit of m, and the other number
    abbrev A : ℕ
    A = p * 2 ^ t * 2 ^ i

    abbrev B : ℕ
    B = 2 ^ s * q * 2 ^ i

    abbrev C : ℕ
    C = m' * q * 2 ^ l * 2 ^ t

    exact_is : p * 2 ^ i * 2 ^ t ≡ A
    exact_is = omega arith

    chosen_is : r * q * 2 ^ j * 2 ^ t ≡ (m + u) * B
    chosen_is =
        let e : 2 ^ j * 2 ^ t ≡ 2 ^ i * 2 ^ k = sym (pow-add 2 j t) ∙ ap (λ (y : ℕ). 2 ^ y) places_are ∙ pow-add 2 i k in
        omega (arith, ap (λ (y : ℕ). r * q * y) e, ap (λ (y : ℕ). y * q * 2 ^ i) (normal_value n))

    outside : (C ≤ m * B) ⊎ (suc m * B ≤ C)
    outside =
        ⊎_elim (λ o. inl (omega (arith, mul-le-mul_right q (rw (pow-add 2 l t, pow-add 2 s i) at o))))
        (λ o. inr (omega (arith, mul-le-mul_right q (rw (pow-add 2 l t, pow-add 2 s i) at (following h m s t p q w m' l i hi' o)))))
        (order (m' * 2 ^ (l + t)) (m * 2 ^ (s + i)))

    lo_is : m * B ≤ A
    lo_is = omega (arith, mul-le-mul_right (2 ^ i) w.le)

    hi_is : A < suc m * B
    hi_is = omega (arith, mul-lt-mul_of_pos_right w.lt (pow_pos i))

    side_is : Side m A B u
    side_is = side_moved m (p * 2 ^ t) (2 ^ s * q) A B u (2 ^ i) 1 (pow_pos i) (omega arith) (omega arith) (omega arith) c

    far_from : (x : ℕ) → distance (p * 2 ^ i) x * 2 ^ t ≡ distance A (x * 2 ^ t)
    far_from x = sym (distance_scale (p * 2 ^ i) x (2 ^ t)) ∙ ap (λ (y : ℕ). distance y (x * 2 ^ t)) exact_is

    chosen_not_farther : distance (p * 2 ^ i) (r * q * 2 ^ j) ≤ distance (p * 2 ^ i) (m' * q * 2 ^ l)
    chosen_not_farther =
        le_of_mul-le-mul_right
        (rw (far_from (r * q * 2 ^ j), far_from (m' * q * 2 ^ l), chosen_is) (not_farther m A B C u lo_is hi_is outside side_is)) (pow_pos t)

    chosen_even : 0 < h → distance (p * 2 ^ i) (m' * q * 2 ^ l) ≡ distance (p * 2 ^ i) (r * q * 2 ^ j) → (m' * 2 ^ l ≡ r * 2 ^ j → ⊥) → r % 2 ≡ 0
    chosen_even hp d o = written_even hp n (as_far m A B C u lo_is hi_is outside side_is scaled other)
      where
        scaled : distance A C ≡ distance A ((m + u) * B)
        scaled = sym (far_from (m' * q * 2 ^ l)) ∙ ap (λ (y : ℕ). y * 2 ^ t) d ∙ far_from (r * q * 2 ^ j) ∙ ap (distance A) chosen_is

        other : C ≡ (m + u) * B → ⊥
        other e = o (eq_of_mul-eq-mul_right (q * 2 ^ t) (mul-pos qp (pow_pos t)) (m' * 2 ^ l) (r * 2 ^ j) (omega (arith, e, chosen_is)))

        written_even : 0 < h → Normal h m u s r k → (m + u) % 2 ≡ 0 → r % 2 ≡ 0
        written_even hp (kept x e f) y = rw e y
        written_even hp (carry x e f) y = rw e (power_even h hp)

  chosen_nearest : 0 < h → Nearest h p q z r (z +ℤ sub_ℕ k t)
  chosen_nearest hp = record {
    lo = normal_lo h m s t p q u w qp c r k n;
    hi = normal_hi h m s t p q u w qp c r k n;
    none_nearer = chosen_not_farther;
    even = λ m' e' i j l hi' v. chosen_even m' e' i j l hi' v hp;
  }

nearest_in_range : (h : ℕ) (x : Exact) → 0 < h → 0 < x.p → 0 < x.q → NearestInRange h x (nearest h x)
nearest_in_range h x hp pp qp = go (chosen h x.p x.q x.z pp qp)
  where
    go : Chosen h x.p x.q x.z → NearestInRange h x (nearest h x)
    go f = record {
      m = f.r;
      e = x.z +ℤ sub_ℕ f.k f.t;
      is = chosen_nearest h f.m f.s f.t x.p x.q f.u f.cuts qp f.side f.r f.k f.normal x.z hp;
      inside = λ y. f.is ∙ simp y;
      outside = λ y. f.is ∙ simp y;
    }

-- ---- the operations

module _ (h : ℕ) (hp : 0 < h) (a b : Scaled) where
  none_of : of_scaled h a b None ≡ None
  none_of = go (is_scaled_at h a) (is_scaled_at h b)
    where
      go : (s t : Bool) → ◌≡◌ {A = Option Scaled} (cond s (cond t None None) None) None
      go true true = refl
      go true false = refl
      go false t = refl

  -- an answer y that is the rounded exact result, or none where that is divided by 0
  met : (x : Exact) (y : Option Scaled) → (0 < x.q → y ≡ nearest h x) → (x.q ≡ 0 → y ≡ None) → RoundedToNearest h a b x (of_scaled h a b y)
  met x y made none = record {
    no_first = λ s. first_refused h a b y s;
    no_second = λ t. second_refused h a b y t;
    by_zero = λ z. ap (of_scaled h a b) (none z) ∙ none_of;
    zero = λ s t q p. sym (both_scaled h a b y s t) ∙ made q ∙ sym (nearest_zero h x.p x.q x.z p);
    nearest = λ s t q p. subst (NearestInRange h x) (sym (made q) ∙ both_scaled h a b y s t) (nearest_in_range h x hp p q);
  }

  sum_met : RoundedToNearest h a b (exact_sum a b) (rounded_sum h a b)
  unfolding rounded_sum
  sum_met = met (exact_sum a b) (nearest h (exact_sum a b)) (λ _. refl) (λ z. absurd (undivided (lt_z (a.e -ℤ b.e) (pos 0)) z))
    where
      undivided : (r : Bool) → (cond r (aligned_sum b a) (aligned_sum a b)).q ≡ 0 → ⊥
      undivided true z = omega arith
      undivided false z = omega arith

  product_met : RoundedToNearest h a b (exact_product a b) (rounded_product h a b)
  unfolding rounded_product
  product_met = met (exact_product a b) (nearest h (exact_product a b)) (λ _. refl) (λ z. absurd (omega arith))

  quotient_met : RoundedToNearest h a b (exact_quotient a b) (rounded_quotient h a b)
  unfolding rounded_quotient
  quotient_met =
      met (exact_quotient a b) (cond (eqb b.m 0) None (nearest h (exact_quotient a b)))
      (λ q. simp (ne_eqb b.m 0 (λ n. omega arith)))
      (λ z. simp (eq-eqb b.m 0 z))

-- ---- what the three public operations promise

module _ (a b : Scaled) {r : Option Scaled} where
  pub sum_promised : r ≡ sum_of a b → (r ≡ sum_of a b) × (RoundedToNearest top_bit a b (exact_sum a b) r
      × (is_scaled a ≡ true → is_scaled b ≡ true → NoneExactly (val a + val b) 1 r))
  unfolding sum_of
  sum_promised e = (
    e,
    (
      subst⁻¹ (RoundedToNearest top_bit a b (exact_sum a b)) e (sum_met top_bit (omega arith) a b),
      λ s t. subst⁻¹ (NoneExactly (val a + val b) 1) e (laws.sum_none_exactly a b s t),
    ),
  )

  pub product_promised : r ≡ product_of a b → (r ≡ product_of a b) × (RoundedToNearest top_bit a b (exact_product a b) r
      × (is_scaled a ≡ true → is_scaled b ≡ true → NoneExactly (val a * val b) one r))
  unfolding product_of
  product_promised e = (
    e,
    (
      subst⁻¹ (RoundedToNearest top_bit a b (exact_product a b)) e (product_met top_bit (omega arith) a b),
      λ s t. subst⁻¹ (NoneExactly (val a * val b) one) e (laws.product_none_exactly a b s t),
    ),
  )

  pub quotient_promised : r ≡ quotient_of a b → (r ≡ quotient_of a b) × (RoundedToNearest top_bit a b (exact_quotient a b) r
      × (is_scaled a ≡ true → is_scaled b ≡ true → b ≢ zero_number → NoneExactly (one * val a) (val b) r))
  unfolding quotient_of is_scaled
  quotient_promised e = (
    e,
    (
      subst⁻¹ (RoundedToNearest top_bit a b (exact_quotient a b)) e (quotient_met top_bit (omega arith) a b),
      λ s t n. subst⁻¹ (NoneExactly (one * val a) (val b)) e (laws.quotient_none_exactly a b s t (val_pos b (some_m top_bit b t n))),
    ),
  )
