-- Back substitution: each weight from those above it, the column below its pivot, and its pivot. Assumes nothing.
use mathlib.Core.Logic.{⊎_elim}
use mathlib.Core.Path.{◌≡◌, sym, ap₂, subst⁻¹, ◌∙◌}
use Prim.Native.Nat.{ℕ, zero, suc, ◌+◌, ◌-◌, ◌≤◌, ◌<◌}
use native.Mathlib.Nat.{eq-or-lt_of_le}
use native.Mathlib.Omega.{arith}
use Rattle.scaled.specs.declared.Scaled.{Scaled}
use Rattle.scaled.specs.Units.{one_number}
use Rattle.markov.specs.Elimination.{total, pivot_of, next, weights}
use Rattle.markov.specs.Promises.{FitsBack, AllFit}
use Rattle.kernel.specs.Numbers.{ops, Fit, times, divided_by, stage}
use Rattle.kernel.specs.Slices.{Slices, number_at, entry_at}
use Rattle.steps.specs.Inner.{Eliminated}
use Rattle.weighing.specs.Inner.{flow_at, weight_at, FlowFits}
use Rattle.kernel.specs.Inner.{Placed}
use Rattle.steps.proofs.Steps.{stage_fits}
use Rattle.markov.proofs.Diagonal.{total_cong}

module _ (n : ℕ) (x : ℕ → ℕ → Scaled) where
  -- the weights of what is left at step k are the last weights of the whole
  stage_weights : (k i : ℕ) → k < n → weights ops (n - (k + 1)) (stage n k x) i ≡ weights ops (n - 1) x (k + i)
  unfolding stage weights
  stage_weights zero i l = let z : n - (0 + 1) ≡ n - 1 = omega arith in let w : 0 + i ≡ i = omega arith in rw (z, w)
  stage_weights (suc k) i l =
      let z : n - (k + 1) ≡ suc (n - (suc k + 1)) = omega arith in
      let w : k + suc i ≡ suc k + i = omega arith in
      let h : weights ops (n - (k + 1)) (stage n k x) (suc i) ≡ weights ops (n - 1) x (k + suc i) = stage_weights k (suc i) (omega arith) in
      rw z (rw (z, w) at h)

  -- the same from the weights of the step after
  later : (k j r : ℕ) → n - (k + 1) ≡ suc r → weights ops (n - 1) x (k + 1 + j) ≡ weights ops r (next ops (suc r) (stage n k x)) j
  unfolding stage
  later k j r q =
      let z : n - (suc k + 1) ≡ r = omega arith in
      let w : suc k + j ≡ k + 1 + j = omega arith in
      let h : weights ops (n - (suc k + 1)) (next ops (n - (k + 1)) (stage n k x)) j ≡ weights ops (n - 1) x (suc k + j) = stage_weights (suc k) j (omega arith) in
      sym (rw (z, q, w) at h)

  here : (k r : ℕ) → n - (k + 1) ≡ suc r
      → divided_by (total ops (suc r) (λ j. times (weights ops r (next ops (suc r) (stage n k x)) j) (stage n k x (suc j) zero))) (pivot_of ops (suc r) (stage n k x))
      ≡ weights ops (n - 1) x k
  unfolding weights
  here k r q =
      let w : k + 0 ≡ k = omega arith in
      let h : weights ops (n - (k + 1)) (stage n k x) zero ≡ weights ops (n - 1) x (k + 0) = stage_weights k zero (omega arith) in
      rw (q, w) at h

  module _ (s w : Slices) (done : Eliminated n (n - 1) x s) where
    pub weight_at_lem : (k : ℕ) → k + 1 < n → ((i : ℕ) → k < i → i < n → number_at w i ≡ weights ops (n - 1) x i)
        → weight_at n s w k ≡ weights ops (n - 1) x k
    unfolding flow_at
    weight_at_lem k l h =
        let r = n - (k + 2) in
        let q : n - (k + 1) ≡ suc (n - (k + 2)) = omega arith in
        let p : entry_at n s k k ≡ pivot_of ops (suc (n - (k + 2))) (stage n k x) = rw q at (done.pivot k (omega arith)) in
        rw q
        (ap₂ divided_by
        (total_cong ops (suc r) (λ j g. ap₂ times (h (k + 1 + j) (omega arith) (omega arith) ∙ later k j r q) (done.column k (k + 1 + j) j (omega arith) (omega arith) (omega arith))))
        p
        ∙ here k r q)

    -- what weight k meets, where every number met from x on is a scaled number
    pub flow_fits : AllFit ops Fit (n - 1) x → (k : ℕ) → k + 1 < n → ((i : ℕ) → k < i → i < n → number_at w i ≡ weights ops (n - 1) x i) → FlowFits n s w k
    flow_fits f k l h =
        let q : n - (k + 1) ≡ suc (n - (k + 2)) = omega arith in
        let w : k + 0 ≡ k = omega arith in
        let above : (j : ℕ) → weights ops (suc (n - (k + 2))) (stage n k x) (suc j) ≡ weights ops (n - 1) x (k + 1 + j) =
        λ j. let v : k + suc j ≡ k + 1 + j = omega arith in rw (q, v) at (stage_weights k (suc j) (omega arith)) in
        let all : AllFit ops Fit (n - (k + 1)) (stage n k x) = stage_fits n x f k (omega arith) in
        let b : FitsBack ops Fit (suc (n - (k + 2))) (stage n k x) (weights ops (suc (n - (k + 2))) (stage n k x)) = (rw q at all).1 in
        record {
          sums = record {
            at = λ c g.
                subst⁻¹ Fit
                (total_cong ops c
                (λ j v. ap₂ times (h (k + 1 + j) (omega arith) (omega arith) ∙ sym (above j))
                (done.column k (k + 1 + j) j (omega arith) (omega arith) (omega arith))))
                (b.sums c (omega arith));
          };
          weight = subst⁻¹ Fit (weight_at_lem k l h ∙ sym (rw (q, w) at (stage_weights k zero (omega arith)))) (b.weights_fit zero (omega arith));
        }

    -- one turn: weight k, where those above it stand
    pub back_go : {w' : Slices} (k : ℕ) → k + 1 < n → Placed k (weight_at n s w k) w w'
        → ((i : ℕ) → k + 1 ≤ i → i < n → number_at w i ≡ weights ops (n - 1) x i)
        → (i : ℕ) → k ≤ i → i < n → number_at w' i ≡ weights ops (n - 1) x i
    back_go k l p h i g hi =
        ⊎_elim
        (λ (z : k ≡ i). rw (← z) (p.same ∙ weight_at_lem k l (λ j w v. h j (omega arith) v)))
        (λ z. p.other i (λ w. omega arith) ∙ h i (omega arith) hi)
        (eq-or-lt_of_le g)

  last_weight : 0 < n → weights ops (n - 1) x (n - 1) ≡ one_number
  unfolding weights
  last_weight l =
      let z : n - (n - 1 + 1) ≡ 0 = omega arith in
      let w : n - 1 + 0 ≡ n - 1 = omega arith in
      let h : weights ops (n - (n - 1 + 1)) (stage n (n - 1) x) zero ≡ weights ops (n - 1) x (n - 1 + 0) = stage_weights (n - 1) zero (omega arith) in
      sym (rw (z, w) at h)

  pub back_first : {w w' : Slices} → 0 < n → Placed (n - 1) one_number w w'
      → (i : ℕ) → n - 1 ≤ i → i < n → number_at w' i ≡ weights ops (n - 1) x i
  back_first l p i g hi = let z : i ≡ n - 1 = omega arith in rw z (p.same ∙ sym (last_weight l))
