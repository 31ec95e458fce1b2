-- The exact weights of two chains whose rates are compared: monotone, scaled, within factors; the diagonal does not matter, nor
-- does the state's own row. Assumes nothing. The order is r + 1 where powers of r come in.
use mathlib.Core.Path.{◌≡◌, refl, sym, ap}
use mathlib.Core.Logic.{◌≢◌}
use mathlib.Core.Bool.{Bool, true, false, cond, ◌&&◌, and-eq-true_iff}
use Prim.Native.Nat.{ℕ, zero, suc, ◌*◌, ◌^◌, ◌≤◌, ◌<◌}
use native.Mathlib.Omega.{arith}
use native.Mathlib.Decide.{ℕ_discrete}
use native.Mathlib.Nat.{le_of_eq, le_antisymm, mul_comm, mul-one}
use lib.Dec.{eqb}
use borrow.Author.Tests.{eq-eqb, ne_eqb}
use Rattle.basics.specs.Near.{Factor, AtMost, Near}
use Rattle.basics.proofs.SumLaws.{prod_cong}
use Rattle.markov.specs.Chain.{Rates}
use Rattle.basics.specs.Below.{count}
use Rattle.markov.specs.Weight.{leads, moves, weight}
use Rattle.basics.proofs.TermLaws.{prod_le_but, one_pow, pow_mul}
use Rattle.markov.proofs.Ways.{Below, over_cong, over_le, over_mul}
use Rattle.markov.proofs.Led.{leads_away}

-- the state's own row does not matter
pub weight_own_row : (n : ℕ) (g h : Rates) (i : ℕ) → ((u v : ℕ) → u < n → v < n → u ≢ i → g u v ≡ h u v) → weight n g i ≡ weight n h i
unfolding weight moves
weight_own_row n g h i e =
    over_cong n n _ _ (λ f hf. ap (λ (z : ℕ). count (eqb (f i) i && leads n f i) * z) (prod_cong n (λ v hv. go f v hv (hf v hv) (ℕ_discrete v i))))
  where
    go : (f : ℕ → ℕ) (v : ℕ) → v < n → f v < n → Dec (v ≡ i) → cond (eqb v i) 1 (g v (f v)) ≡ cond (eqb v i) 1 (h v (f v))
    go f v hv l (yes q) = rw (eq-eqb v i q)
    go f v hv l (no d) = rw (ne_eqb v i d) (e v (f v) hv l d)

module _ (r : ℕ) (g h : Rates) (a b i : ℕ) (hi : i < suc r) (le : (u v : ℕ) → u < suc r → v < suc r → u ≢ v → g u v * a ≤ h u v * b) where
  moves_le : (f : ℕ → ℕ) → Below (suc r) (suc r) f → leads (suc r) f i ≡ true → moves (suc r) g i f * a ^ r ≤ moves (suc r) h i f * b ^ r
  unfolding moves
  moves_le f hf e =
      prod_le_but r a b i (λ v. cond (eqb v i) 1 (g v (f v))) (λ v. cond (eqb v i) 1 (h v (f v))) hi (rw (eq-eqb i i refl)) (rw (eq-eqb i i refl))
      (λ v hv d. rw (ne_eqb v i d) (le v (f v) hv (hf v hv) (leads_away (suc r) f i e v hv d)))

  term_le : (f : ℕ → ℕ) → Below (suc r) (suc r) f
      → count (eqb (f i) i && leads (suc r) f i) * moves (suc r) g i f * a ^ r ≤ count (eqb (f i) i && leads (suc r) f i) * moves (suc r) h i f * b ^ r
  unfolding count
  term_le f hf = go (eqb (f i) i && leads (suc r) f i) refl
    where
      go : (t : Bool) → (eqb (f i) i && leads (suc r) f i) ≡ t → count t * moves (suc r) g i f * a ^ r ≤ count t * moves (suc r) h i f * b ^ r
      go true e = omega (arith, moves_le f hf ((and-eq-true_iff (eqb (f i) i) (leads (suc r) f i)).0 e).1)
      go false e = omega arith

  -- rates at most b / a times as large: weights at most its r-th power times as large
  pub weight_at_most : weight (suc r) g i * a ^ r ≤ weight (suc r) h i * b ^ r
  unfolding weight
  weight_at_most =
      rw (
        ← (over_mul (suc r) (suc r) (a ^ r) (λ f. count (eqb (f i) i && leads (suc r) f i) * moves (suc r) g i f)),
        ← (over_mul (suc r) (suc r) (b ^ r) (λ f. count (eqb (f i) i && leads (suc r) f i) * moves (suc r) h i f)),
      )
      (over_le (suc r) (suc r) _ _ term_le)

-- greater rates between different states: no smaller weight
pub weight_mono : (n : ℕ) (g h : Rates) (i : ℕ) → i < n → ((u v : ℕ) → u < n → v < n → u ≢ v → g u v ≤ h u v) → weight n g i ≤ weight n h i
weight_mono zero g h i hi e = absurd (omega arith)
weight_mono (suc r) g h i hi e =
    simp (one_pow, mul-one) at (weight_at_most r g h 1 1 i hi (λ u v hu hv d. simp mul-one (e u v hu hv d)))

-- equal rates between different states: equal weights
pub weight_diagonal : (n : ℕ) (g h : Rates) (i : ℕ) → i < n → ((u v : ℕ) → u < n → v < n → u ≢ v → g u v ≡ h u v) → weight n g i ≡ weight n h i
weight_diagonal n g h i hi e =
    le_antisymm (weight_mono n g h i hi (λ u v hu hv d. le_of_eq (e u v hu hv d)))
    (weight_mono n h g i hi (λ u v hu hv d. le_of_eq (sym (e u v hu hv d))))

-- s times the rates: s ^ r times the weight
pub weight_scale : (r : ℕ) (g h : Rates) (i s : ℕ) → i < suc r → ((u v : ℕ) → u < suc r → v < suc r → u ≢ v → h u v ≡ s * g u v)
    → weight (suc r) h i ≡ s ^ r * weight (suc r) g i
weight_scale r g h i s hi e =
    le_antisymm
    (rw (mul_comm (s ^ r) (weight (suc r) g i)) (simp (one_pow, mul-one) at (weight_at_most r h g 1 s i hi (λ u v hu hv d. omega (arith, e u v hu hv d)))))
    (rw (mul_comm (s ^ r) (weight (suc r) g i)) (simp (one_pow, mul-one) at (weight_at_most r g h s 1 i hi (λ u v hu hv d. omega (arith, e u v hu hv d)))))

-- rates within c factors: weights within r * c
pub weight_near : {F : Factor} {c : ℕ} (r : ℕ) (g h : Rates) → ((u v : ℕ) → u < suc r → v < suc r → u ≢ v → Near F c (g u v) (h u v))
    → (i : ℕ) → i < suc r → Near F (r * c) (weight (suc r) g i) (weight (suc r) h i)
weight_near {F} {c} r g h e i hi = record {
  under = one_side g h (λ u v hu hv d. (e u v hu hv d).under);
  over = one_side h g (λ u v hu hv d. (e u v hu hv d).over);
}
  where
    one_side : (g h : Rates) → ((u v : ℕ) → u < suc r → v < suc r → u ≢ v → AtMost F c (g u v) (h u v)) → AtMost F (r * c) (weight (suc r) g i) (weight (suc r) h i)
    one_side g h e = record {
      bound = rw (pow_mul F.den r c, pow_mul F.num r c) (weight_at_most r g h (F.den ^ c) (F.num ^ c) i hi (λ u v hu hv d. (e u v hu hv d).bound));
    }
