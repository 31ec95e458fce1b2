-- The joint chain of two parts: its sums are double sums, the products of two balanced lists balance it, and its moves are those of one
-- part at a time. Assumes nothing.
use mathlib.Core.Bool.{Bool, true, false}
use mathlib.Core.Path.{◌≡◌, refl, sym, ap, ap₂, subst, ◌∙◌}
use Prim.Native.Nat.{ℕ, zero, suc, ◌+◌, ◌*◌, ◌/◌, ◌%◌, ◌<◌}
use native.Mathlib.Nat.{mod-lt, div-add-mod', div-lt_iff_lt-mul}
use native.Mathlib.Omega.{arith}
use lib.Arith.{digits_div, digits_mod, digits_lt}
use lib.Dec.{eqb, ltb}
use borrow.Author.Tests.{eq-eqb, ne_eqb, eqb-true, eqb-false}
use Rattle.basics.specs.Sum.{sum}
use Rattle.basics.specs.Below.{count}
use Rattle.basics.proofs.SumLaws.{sum_last, sum_cong, sum_add, mul_sum, sum_split, sum_same}
use Rattle.basics.proofs.TermLaws.{sum_at, sum_mul}
use Rattle.markov.specs.Chain.{Rates, Balanced, InProportion}
use Rattle.markov.specs.Product.{joint_rate}

-- ---- joint states

-- the state's two parts are below the orders
pub first_below : (a b x : ℕ) → x < a * b → x / b < a
first_below a zero x l = absurd (omega arith)
first_below a (suc b) x l = (div-lt_iff_lt-mul {k = suc b} {x = x} {y = a} (omega arith)).1 l

pub second_below : (a b x : ℕ) → x < a * b → x % b < b
second_below a zero x l = absurd (omega arith)
second_below a (suc b) x l = mod-lt x (omega arith)

-- what holds of every pair of states holds of every joint state; and the same of two joint states
pub by_parts : (a b : ℕ) (P : ℕ → Type 0) → ((i j : ℕ) → i < a → j < b → P (i * b + j)) → (x : ℕ) → x < a * b → P x
by_parts a b P h x l = subst P (div-add-mod' x b) (h (x / b) (x % b) (first_below a b x l) (second_below a b x l))

pub by_pairs : (a b : ℕ) (P : ℕ → ℕ → Type 0) → ((i j k m : ℕ) → i < a → j < b → k < a → m < b → P (i * b + j) (k * b + m))
    → (x y : ℕ) → x < a * b → y < a * b → P x y
by_pairs a b P h x y hx hy =
    by_parts a b (λ x. P x y) (λ i j hi hj. by_parts a b (P (i * b + j)) (λ k m hk hm. h i j k m hi hj hk hm) y hy) x hx

-- ---- sums

-- a sum over the joint states is a double sum
pub sum_pairs : (a b : ℕ) (F : ℕ → ℕ) → sum (a * b) F ≡ sum a (λ i. sum b (λ j. F (i * b + j)))
sum_pairs zero b F = let e : 0 * b ≡ 0 = omega arith in rw e (unfold sum in refl)
sum_pairs (suc a) b F =
    let e : suc a * b ≡ a * b + b = omega arith in
    rw e (omega (arith, sum_split (a * b) b F, sum_pairs a b F, sum_last a (λ i. sum b (λ j. F (i * b + j)))))

-- the terms of column q, and those of row p
sum_cross : (a b p q : ℕ) (F G : ℕ → ℕ → ℕ) → p < a → q < b
    → sum a (λ i. sum b (λ j. count (eqb j q) * F i j + count (eqb i p) * G i j)) ≡ sum a (λ i. F i q) + sum b (λ j. G p j)
sum_cross a b p q F G hp hq =
    sum_cong a (λ i _. sum_add b (λ j. count (eqb j q) * F i j) (λ j. count (eqb i p) * G i j) ∙ ap₂ ◌+◌ (sum_at b q (F i) hq) (mul_sum b (count (eqb i p)) (G i)))
    ∙ sum_add a (λ i. F i q) (λ i. count (eqb i p) * sum b (G i))
    ∙ ap (λ (s : ℕ). sum a (λ i. F i q) + s) (sum_at a p (λ i. sum b (G i)) hp)

-- ---- the joint rates

-- the rate between joint states
pub joint_is : (b : ℕ) (f g : Rates) (i j p q : ℕ) → j < b → q < b
    → joint_rate b f g (i * b + j) (p * b + q) ≡ count (eqb j q) * f i p + count (eqb i p) * g j q
unfolding joint_rate
joint_is b f g i j p q hj hq = rw (digits_div i hj, digits_mod i hj, digits_div p hq, digits_mod p hq)

-- h is the joint rate function of f and g, as far as the states below a × b go
pub record IsJoint (a b : ℕ) (f g h : Rates) : Type 0 where
  pub at : (x y : ℕ) → x < a * b → y < a * b → h x y ≡ joint_rate b f g x y

eqb_swap : (i k : ℕ) → eqb i k ≡ eqb k i
eqb_swap i k = go (eqb i k) refl
  where
    go : (t : Bool) → eqb i k ≡ t → eqb i k ≡ eqb k i
    go true e = e ∙ sym (eq-eqb k i (sym (eqb-true i k e)))
    go false e = e ∙ sym (ne_eqb k i (λ q. eqb-false i k e (sym q)))

-- the products of the parts' lists, by joint state
unfoldable pub products : ℕ → (ℕ → ℕ) → (ℕ → ℕ) → ℕ → ℕ
products b v u x = v (x / b) * u (x % b)

products_is : (b : ℕ) (v u : ℕ → ℕ) (i j : ℕ) → j < b → products b v u (i * b + j) ≡ v i * u j
unfolding products
products_is b v u i j hj = rw (digits_div i hj, digits_mod i hj)

module _ {a b : ℕ} {f g h : Rates} (J : IsJoint a b f g h) where
  -- the rate between joint states, for h
  pub rate_is : (i j p q : ℕ) → i < a → j < b → p < a → q < b → h (i * b + j) (p * b + q) ≡ count (eqb j q) * f i p + count (eqb i p) * g j q
  rate_is i j p q hi hj hp hq = J.at (i * b + j) (p * b + q) (digits_lt hi hj) (digits_lt hp hq) ∙ joint_is b f g i j p q hj hq

  -- the rates from a joint state sum up to those from its parts
  row_sum : (p q : ℕ) → p < a → q < b → sum (a * b) (λ y. h (p * b + q) y) ≡ sum a (f p) + sum b (g q)
  row_sum p q hp hq =
      sum_pairs a b (λ y. h (p * b + q) y)
      ∙ sum_cong a (λ i hi. sum_cong b (λ j hj. term i j hi hj))
      ∙ sum_cross a b p q (λ i j. f p i) (λ i j. g q j) hp hq
    where
      term : (i j : ℕ) → i < a → j < b → h (p * b + q) (i * b + j) ≡ count (eqb j q) * f p i + count (eqb i p) * g q j
      term i j hi hj = rw (eqb_swap j q, eqb_swap i p) (rate_is p q i j hp hq hi hj)

  module _ (v u : ℕ → ℕ) where
    inflow : (p q : ℕ) → p < a → q < b
        → sum (a * b) (λ x. products b v u x * h x (p * b + q)) ≡ u q * sum a (λ i. v i * f i p) + v p * sum b (λ j. u j * g j q)
    inflow p q hp hq =
        sum_pairs a b (λ x. products b v u x * h x (p * b + q))
        ∙ sum_cong a (λ i hi. sum_cong b (λ j hj. term i j hi hj))
        ∙ sum_cross a b p q (λ i j. u j * (v i * f i p)) (λ i j. v i * (u j * g j q)) hp hq
        ∙ ap₂ ◌+◌ (mul_sum a (u q) (λ i. v i * f i p)) (mul_sum b (v p) (λ j. u j * g j q))
      where
        term : (i j : ℕ) → i < a → j < b
            → products b v u (i * b + j) * h (i * b + j) (p * b + q) ≡ count (eqb j q) * (u j * (v i * f i p)) + count (eqb i p) * (v i * (u j * g j q))
        term i j hi hj = rw (products_is b v u i j hj, rate_is i j p q hi hj hp hq) (omega arith)

    -- the products of two balanced lists balance the joint chain
    pub products_balanced : Balanced a f v → Balanced b g u → Balanced (a * b) h (products b v u)
    products_balanced bv bu = record { at = by_parts a b (λ y. sum (a * b) (λ x. products b v u x * h x y) ≡ products b v u y * sum (a * b) (λ k. h y k)) at_pair }
      where
        at_pair : (p q : ℕ) → p < a → q < b
            → sum (a * b) (λ x. products b v u x * h x (p * b + q)) ≡ products b v u (p * b + q) * sum (a * b) (λ k. h (p * b + q) k)
        at_pair p q hp hq = rw (inflow p q hp hq, row_sum p q hp hq, products_is b v u p q hq, bv.at p hp, bu.at q hq) (omega arith)

-- ---- shares

module _ (a b : ℕ) (v u : ℕ → ℕ) where
  products_sum : sum (a * b) (products b v u) ≡ sum a v * sum b u
  products_sum =
      sum_pairs a b (products b v u)
      ∙ sum_cong a (λ i hi. sum_cong b (λ j hj. products_is b v u i j hj) ∙ mul_sum b (v i) u)
      ∙ sum_mul a (sum b u) v

  -- a list in proportion to the products has the products of the shares
  pub product_shares : (w : ℕ → ℕ) → InProportion (a * b) (products b v u) w → (i j : ℕ) → i < a → j < b
      → w (i * b + j) * (sum a v * sum b u) ≡ v i * u j * sum (a * b) w
  product_shares w h i j hi hj =
      let x = i * b + j in
      let all : sum (a * b) (λ y. w x * products b v u y) ≡ sum (a * b) (λ y. products b v u x * w y) =
      sum_cong (a * b) (λ y hy. let z = h.at x y (digits_lt hi hj) hy in omega (arith, z)) in
      ap (λ (s : ℕ). w x * s) (sym products_sum)
      ∙ sym (mul_sum (a * b) (w x) (products b v u))
      ∙ all
      ∙ mul_sum (a * b) (products b v u x) w
      ∙ ap (λ (s : ℕ). s * sum (a * b) w) (products_is b v u i j hj)

-- ---- the number of moves

-- whether a joint rate is positive, as a number: where both parts' rates count, both are 0
count_moves : (s t : Bool) (m n : ℕ) → (s ≡ true → t ≡ true → m ≡ 0) → (s ≡ true → t ≡ true → n ≡ 0)
    → count (ltb 0 (count s * m + count t * n)) ≡ count s * count (ltb 0 m) + count t * count (ltb 0 n)
unfolding count
count_moves true true m n p q = rw (p refl refl, q refl refl)
count_moves true false m n p q = let e : 1 * m + 0 * n ≡ m = omega arith in rw e (omega arith)
count_moves false true m n p q = let e : 0 * m + 1 * n ≡ n = omega arith in rw e (omega arith)
count_moves false false m n p q = let e : 0 * m + 0 * n ≡ 0 = omega arith in rw e (omega arith)

module _ (a b : ℕ) (f g : Rates) (zf : (i : ℕ) → i < a → f i i ≡ 0) (zg : (j : ℕ) → j < b → g j j ≡ 0) where
  -- the joint chain's moves, 1 for each positive rate, are the joint rates of the parts' moves
  moves_joint : IsJoint a b (λ i k. count (ltb 0 (f i k))) (λ j m. count (ltb 0 (g j m))) (λ x y. count (ltb 0 (joint_rate b f g x y)))
  unfolding joint_rate
  moves_joint = record {
    at = λ x y hx hy.
        count_moves (eqb (x % b) (y % b)) (eqb (x / b) (y / b)) (f (x / b) (y / b)) (g (x % b) (y % b))
        (λ s t. ap (f (x / b)) (sym (eqb-true (x / b) (y / b) t)) ∙ zf (x / b) (first_below a b x hx))
        (λ s t. ap (g (x % b)) (sym (eqb-true (x % b) (y % b) s)) ∙ zg (x % b) (second_below a b x hx));
  }

  pub joint_moves : sum (a * b) (λ x. sum (a * b) (λ y. count (ltb 0 (joint_rate b f g x y))))
      ≡ b * sum a (λ i. sum a (λ k. count (ltb 0 (f i k)))) + a * sum b (λ j. sum b (λ m. count (ltb 0 (g j m))))
  joint_moves =
      let F : ℕ → ℕ = λ i. sum a (λ k. count (ltb 0 (f i k))) in
      let G : ℕ → ℕ = λ j. sum b (λ m. count (ltb 0 (g j m))) in
      sum_pairs a b (λ x. sum (a * b) (λ y. count (ltb 0 (joint_rate b f g x y))))
      ∙ sum_cong a (λ i hi. sum_cong b (λ j hj. row_sum moves_joint i j hi hj) ∙ sum_add b (λ j. F i) G ∙ ap (λ (s : ℕ). s + sum b G) (sum_same b (F i)))
      ∙ sum_add a (λ i. b * F i) (λ i. sum b G)
      ∙ ap₂ ◌+◌ (mul_sum a b F) (sum_same a (sum b G))
