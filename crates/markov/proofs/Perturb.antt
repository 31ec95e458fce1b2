-- One step of the elimination with numbers that are off by some factors: what it does to the exact weights. Assumes nothing.
-- Numbers are counted in units of 1 / one.
use mathlib.Core.Path.{◌≡◌, refl, sym, ap, ◌∙◌}
use mathlib.Core.Logic.{◌≢◌}
use Prim.Native.Nat.{ℕ, zero, suc, ◌+◌, ◌*◌, ◌<◌}
use native.Mathlib.Nat.{one-le-pow}
use native.Mathlib.Omega.{arith}
use Rattle.basics.specs.Sum.{sum}
use Rattle.basics.specs.Near.{Factor, Near}
use Rattle.basics.proofs.SumLaws.{sum_cong, mul_sum}
use Rattle.basics.proofs.NearLaws.{near_eq, near_trans, near_more, near_sum, near_scale, near_cancel, near_pos}
use Rattle.markov.specs.Chain.{Rates, Irreducible}
use Rattle.markov.specs.Weight.{weight}
use Rattle.markov.proofs.Balance.{weight_balanced}
use Rattle.markov.proofs.Compare.{weight_scale, weight_near}
use Rattle.markov.proofs.Step.{pivot, reduced, into_zero, pivot_pos, reduced_irreducible, irreducible_of}
use Rattle.markov.proofs.Positive.{pos_right}
use Rattle.markov.proofs.LastWeight.{absolute_step}

-- h is the reduced chain of g, divided by the pivot, with entries within d factors
module _ {F : Factor} (r : ℕ) (g h : Rates) {d : ℕ}
    (e : (i j : ℕ) → i < suc r → j < suc r → i ≢ j → Near F d (pivot (suc r) g * h i j) (reduced (suc r) g i j)) (c : Irreducible (suc (suc r)) g) where
  pub next_irreducible : Irreducible (suc r) h
  next_irreducible = irreducible_of (λ i k li lk ne p. pos_right (pivot (suc r) g) (h i k) (near_pos (e i k li lk ne) p)) (reduced_irreducible (suc r) g c)

  -- its weights times the pivot are those of g, within d factors for each state but one
  pub step_near : (i : ℕ) → i < suc r → Near F (r * d) (pivot (suc r) g * weight (suc r) h i) (weight (suc (suc r)) g (suc i))
  step_near i l =
      let s = pivot (suc r) g in
      let p : Near F (r * d) (weight (suc r) (λ i j. s * h i j) i) (weight (suc r) (reduced (suc r) g) i) = weight_near r (λ i j. s * h i j) (reduced (suc r) g) e i l in
      near_cancel (one-le-pow r s (pivot_pos (suc r) g (omega arith) c))
      (near_eq (near_scale s p) (omega (arith, ap (λ x. s * x) (weight_scale r h (λ i j. s * h i j) i s l (λ u v hu hv d. refl)))) (sym (absolute_step r g c i l)))

  -- the states other than 0: w times z near the weights of h gives w times z times the pivot near those of g
  pub tail_near : (one : ℕ) {k : ℕ} (z : ℕ) (w : ℕ → ℕ) → ((i : ℕ) → i < suc r → Near F k (w i * z) (one * weight (suc r) h i))
      → (i : ℕ) → i < suc r → Near F (k + r * d) (w i * (pivot (suc r) g * z)) (one * weight (suc (suc r)) g (suc i))
  tail_near one z w p i l =
      near_trans (near_eq (near_scale (pivot (suc r) g) (p i l)) (omega arith) refl) (near_eq (near_scale one (step_near i l)) (omega arith) refl)

-- state 0, from the others, by a back substitution that is off by m factors
pub head_near : {F : Factor} (n : ℕ) (g : Rates) (one : ℕ) {k m : ℕ} (z : ℕ) (w : ℕ → ℕ) → zero < pivot n g
    → Near F m (pivot n g * w zero) (sum n (λ j. w (suc j) * g (suc j) zero))
    → ((i : ℕ) → i < n → Near F k (w (suc i) * z) (one * weight (suc n) g (suc i)))
    → Near F (k + m) (w zero * z) (one * weight (suc n) g zero)
head_near {F} n g one {k} z w p back h =
    let v = weight (suc n) g in
    let a : ℕ → ℕ = λ j. g (suc j) zero in
    let terms : Near F k (sum n (λ j. a j * (w (suc j) * z))) (sum n (λ j. a j * (one * v (suc j)))) = near_sum n (λ j l. near_scale (a j) (h j l)) in
    let left : sum n (λ j. a j * (w (suc j) * z)) ≡ z * sum n (λ j. w (suc j) * a j) =
    sum_cong n (λ j l. omega arith) ∙ mul_sum n z (λ j. w (suc j) * a j) in
    let right : sum n (λ j. a j * (one * v (suc j))) ≡ one * (pivot n g * v zero) =
    sum_cong n (λ j l. omega arith) ∙ mul_sum n one (λ j. v (suc j) * a j) ∙ ap (λ x. one * x) (into_zero n g (weight_balanced (suc n) g)) in
    near_cancel p (near_eq (near_more (omega arith) (near_trans (near_scale z back) (near_eq terms (sym left) (sym right)))) (omega arith) (omega arith))
