-- The exact step of the elimination, for the exact weights themselves, and the weight of the last state by the pivots. Assumes nothing.
-- Both sides of the step are in proportion, and the weight of a state does not depend on its own row: so their ratio is the same
-- for all chains with one row 0, and one simple chain tells it.
use mathlib.Core.Path.{◌≡◌, refl, sym, ◌∙◌, ap, ap₂}
use mathlib.Core.Logic.{◌≢◌}
use Prim.Native.Nat.{ℕ, zero, suc, ◌+◌, ◌*◌, ◌^◌, ◌<◌}
use native.Mathlib.Omega.{arith}
use native.Mathlib.Nat.{mul_comm, mul-one, eq_of_mul-eq-mul_right}
use lib.Dec.{eqb, eqb-suc-suc}
use Rattle.basics.proofs.SumLaws.{sum_cong}
use Rattle.markov.specs.Chain.{Rates, Irreducible}
use Rattle.basics.specs.Below.{count}
use Rattle.markov.specs.Weight.{weight}
use Rattle.markov.proofs.Led.{iter}
use Rattle.markov.proofs.Compare.{weight_own_row, weight_scale}
use Rattle.markov.proofs.Balance.{weight_balanced}
use Rattle.markov.proofs.Step.{pivot, reduced, reduced_balanced, reduced_irreducible}
use Rattle.markov.proofs.Rows.{only, weight_only, φ, simple, simple_1, row_by_row}
use Rattle.markov.proofs.Positive.{weight_pos, weight_alone}
use Rattle.markov.proofs.Unique.{weight_unique}

abbrev Holds : ℕ → Rates → ℕ → Type 0
Holds r g i = pivot (suc r) g * weight (suc r) (reduced (suc r) g) i ≡ pivot (suc r) g ^ r * weight (suc (suc r)) g (suc i)

-- from state to state, by proportion
carry : (r : ℕ) (g : Rates) (i j : ℕ) → Irreducible (suc (suc r)) g → i < suc r → j < suc r → Holds r g i → Holds r g j
carry r g i j c hi hj e =
    let s = pivot (suc r) g in
    let W = weight (suc (suc r)) g in
    let Z = weight (suc r) (reduced (suc r) g) in
    let p : W (suc i) * Z j ≡ W (suc j) * Z i =
    (weight_unique (suc r) (reduced (suc r) g) (reduced_irreducible (suc r) g c) (reduced_balanced (suc r) g (weight_balanced (suc (suc r)) g))).at i j hi hj in
    eq_of_mul-eq-mul_right (W (suc i)) (weight_pos (suc (suc r)) g c (suc i) (omega arith)) _ _
    (omega (arith, ap (λ (z : ℕ). s * z) p, ap (λ (z : ℕ). W (suc j) * z) e))

-- another row of the state itself
change : (r : ℕ) (g h : Rates) (i : ℕ) → ((u v : ℕ) → u < suc (suc r) → u ≢ suc i → g u v ≡ h u v) → Holds r g i → Holds r h i
unfolding pivot reduced
change r g h i e p =
    let ep : pivot (suc r) g ≡ pivot (suc r) h = sum_cong (suc r) (λ j hj. e 0 (suc j) (omega arith) (λ q. omega arith)) in
    let er : weight (suc r) (reduced (suc r) g) i ≡ weight (suc r) (reduced (suc r) h) i =
    weight_own_row (suc r) (reduced (suc r) g) (reduced (suc r) h) i (λ u v hu hv d.
    ap₂ ◌+◌ (ap₂ ◌*◌ ep (e (suc u) (suc v) (omega arith) (λ q. d (omega arith))))
    (ap₂ ◌*◌ (e (suc u) 0 (omega arith) (λ q. d (omega arith))) (e 0 (suc v) (omega arith) (λ q. omega arith)))) in
    let ew : weight (suc (suc r)) g (suc i) ≡ weight (suc (suc r)) h (suc i) = weight_own_row (suc (suc r)) g h (suc i) (λ u v hu hv d. e u v hu d) in
    sym (ap₂ ◌*◌ ep er) ∙ p ∙ ap₂ (λ (x y : ℕ). x ^ r * y) ep ew

module _ (r : ℕ) (g : Rates) where
  -- in the simple chain, reduced, every other state moves to the first one
  simple_reduced : weight (suc r) (reduced (suc r) (simple r g)) 0 ≡ pivot (suc r) (simple r g) ^ r
  unfolding reduced simple φ only count iter
  simple_reduced =
      let s = pivot (suc r) (simple r g) in
      weight_own_row (suc r) (reduced (suc r) (simple r g)) (λ u v. s * only (λ u. 0) u v) 0 row
      ∙ weight_scale r (only (λ u. 0)) (λ u v. s * only (λ u. 0) u v) 0 s (omega arith) (λ u v hu hv d. refl)
      ∙ ap (λ (z : ℕ). s ^ r * z) (weight_only (suc r) 0 (λ u. 0) (omega arith) (λ v hv. omega arith) refl (λ f h v hv. (1, h v hv)))
      ∙ mul-one (s ^ r)
    where
      tail : (v : ℕ) → count (eqb (suc v) 1) ≡ count (eqb v 0)
      tail v = ap count (eqb-suc-suc v 0)

      row : (u v : ℕ) → u < suc r → v < suc r → u ≢ 0 → reduced (suc r) (simple r g) u v ≡ pivot (suc r) (simple r g) * only (λ u. 0) u v
      row zero v hu hv d = absurd (d refl)
      row (suc u) v hu hv d = rw (tail v) (omega arith)

  pub absolute_step : Irreducible (suc (suc r)) g → (i : ℕ) → i < suc r
      → pivot (suc r) g * weight (suc r) (reduced (suc r) g) i ≡ pivot (suc r) g ^ r * weight (suc (suc r)) g (suc i)
  absolute_step c =
      row_by_row r g c (Holds r) (λ h ch i j hi hj. carry r h i j ch hi hj) (change r)
      (rw (simple_reduced, simple_1 r g) (mul_comm (pivot (suc r) (simple r g)) (pivot (suc r) (simple r g) ^ r)))

-- the product of the pivots of r + 1 states reduced one after another, and the powers by which these reductions multiply the weights
unfoldable pub exact_pivots : ℕ → Rates → ℕ
exact_pivots zero g = 1
exact_pivots (suc r) g = pivot (suc r) g * exact_pivots r (reduced (suc r) g)

unfoldable pub exact_powers : ℕ → Rates → ℕ
exact_powers zero g = 1
exact_powers (suc r) g = pivot (suc r) g ^ r * exact_powers r (reduced (suc r) g)

-- the weight of the last state is the product of the pivots, over the powers
pub last_weight_pivots : (r : ℕ) (g : Rates) → Irreducible (suc r) g → exact_powers r g * weight (suc r) g r ≡ exact_pivots r g
unfolding exact_pivots exact_powers
last_weight_pivots zero g c = rw (weight_alone g)
last_weight_pivots (suc r) g c =
    let h = reduced (suc r) g in
    omega (
      arith,
      ap (λ (z : ℕ). exact_powers r h * z) (absolute_step r g c r (omega arith)),
      ap (λ (z : ℕ). pivot (suc r) g * z) (last_weight_pivots r h (reduced_irreducible (suc r) g c)),
    )
