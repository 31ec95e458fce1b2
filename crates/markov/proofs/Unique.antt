-- What balances a chain in which every state reaches every other is in proportion to its exact weights. Assumes nothing.
use mathlib.Core.Path.{◌≡◌, refl, sym, ap}
use Prim.Native.Nat.{ℕ, zero, suc, ◌*◌, ◌<◌}
use native.Mathlib.Nat.{eq_of_mul-eq-mul_left}
use native.Mathlib.Omega.{arith}
use Rattle.basics.specs.Sum.{sum}
use Rattle.basics.proofs.SumLaws.{sum_cong, mul_sum}
use Rattle.markov.specs.Chain.{Rates, Irreducible, Balanced, InProportion}
use Rattle.markov.specs.Weight.{weight}
use Rattle.markov.proofs.Balance.{weight_balanced}
use Rattle.markov.proofs.Step.{pivot, reduced, into_zero, reduced_balanced, pivot_pos, reduced_irreducible}

-- where the others are in proportion, so is state 0: the pivot times its number is a sum over the others
first_proportion : (r : ℕ) (g : Rates) {v w : ℕ → ℕ} → zero < pivot r g → Balanced (suc r) g v → Balanced (suc r) g w → (j : ℕ)
    → ((i : ℕ) → i < r → v (suc i) * w (suc j) ≡ v (suc j) * w (suc i)) → v zero * w (suc j) ≡ v (suc j) * w zero
first_proportion r g {v} {w} s bv bw j e =
    let same : sum r (λ i. w (suc j) * (v (suc i) * g (suc i) zero)) ≡ sum r (λ i. v (suc j) * (w (suc i) * g (suc i) zero)) =
    sum_cong r (λ i l. omega (arith, ap (λ x. x * g (suc i) zero) (e i l))) in
    eq_of_mul-eq-mul_left (pivot r g) s _ _
    (omega (
      arith,
      ap (λ x. w (suc j) * x) (into_zero r g bv),
      ap (λ x. v (suc j) * x) (into_zero r g bw),
      mul_sum r (w (suc j)) (λ i. v (suc i) * g (suc i) zero),
      mul_sum r (v (suc j)) (λ i. w (suc i) * g (suc i) zero),
    ))

proportion_at : (n : ℕ) (g : Rates) {v w : ℕ → ℕ} → Irreducible n g → Balanced n g v → Balanced n g w
    → (i j : ℕ) → i < n → j < n → v i * w j ≡ v j * w i
proportion_at zero g c bv bw i j hi hj = omega arith
proportion_at (suc r) g c bv bw zero zero hi hj = refl
proportion_at (suc r) g {v} {w} c bv bw zero (suc j) hi hj =
    first_proportion r g (pivot_pos r g (omega arith) c) bv bw j
    (λ i l. proportion_at r (reduced r g) (reduced_irreducible r g c) (reduced_balanced r g bv) (reduced_balanced r g bw) i j l (omega arith))
proportion_at (suc r) g {v} {w} c bv bw (suc i) zero hi hj =
    sym (first_proportion r g (pivot_pos r g (omega arith) c) bv bw i
    (λ k l. proportion_at r (reduced r g) (reduced_irreducible r g c) (reduced_balanced r g bv) (reduced_balanced r g bw) k i l (omega arith)))
proportion_at (suc r) g c bv bw (suc i) (suc j) hi hj =
    proportion_at r (reduced r g) (reduced_irreducible r g c) (reduced_balanced r g bv) (reduced_balanced r g bw) i j (omega arith) (omega arith)

-- two lists that balance the chain are in proportion
pub balanced_unique : (n : ℕ) (g : Rates) {v w : ℕ → ℕ} → Irreducible n g → Balanced n g v → Balanced n g w → InProportion n v w
balanced_unique n g c bv bw = record { at = proportion_at n g c bv bw }

pub weight_unique : (n : ℕ) (g : Rates) {w : ℕ → ℕ} → Irreducible n g → Balanced n g w → InProportion n w (weight n g)
weight_unique n g c b = balanced_unique n g c b (weight_balanced n g)
