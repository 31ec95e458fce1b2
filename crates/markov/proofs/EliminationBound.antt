-- THE ERROR BOUND: the weights and shares that the elimination computes, against the exact ones of the whole-number rates that its
-- matrix was filled with. Assumes nothing but the operations' promises and that the numbers met fit.
use mathlib.Core.Path.{◌≡◌, refl, sym, ◌∙◌}
use mathlib.Core.Logic.{◌≢◌}
use Prim.Native.Nat.{ℕ, zero, suc, ◌+◌, ◌*◌, ◌^◌, ◌<◌}
use native.Mathlib.Nat.{mul_comm, mul-pos, one-le-pow, pow-suc, le_refl}
use native.Mathlib.Omega.{arith}
use Rattle.basics.specs.Sum.{sum}
use Rattle.basics.specs.Near.{Factor, Near}
use Rattle.basics.proofs.SumLaws.{sum_cong, mul_sum, sum_pos}
use Rattle.basics.proofs.NearLaws.{near_eq, near_sym, near_trans, near_more, near_sum, near_scale, near_cancel, near_pos}
use Rattle.markov.specs.Chain.{Rates, Irreducible}
use Rattle.markov.specs.Weight.{weight}
use Rattle.markov.specs.Elimination.{Ops, total, weights, shares}
use Rattle.markov.specs.Count.{bound_count}
use Rattle.markov.proofs.StepCounts.{elimination_count, pivot_product}
use Rattle.markov.specs.Promises.{Promises, AllFit, AllFitShares}
use Rattle.markov.proofs.Bound.{vals, own_bound, own_bound_absolute}
use Rattle.markov.proofs.Compare.{weight_scale}
use Rattle.markov.proofs.CountLaws.{positives_le, elimination_count_le}
use Rattle.markov.proofs.FitMaps.{all_weights_fit}
use Rattle.markov.proofs.Positive.{weight_pos, pos_left}
use Rattle.markov.proofs.Rounding.{total_near}
use Rattle.markov.proofs.Step.{irreducible_of}

-- a share: w lies within k of v over v's part z, total within d of the sum of w, share is a quotient of the two
share_near : {F : Factor} {k d all : ℕ} (one n z : ℕ) (w v : ℕ → ℕ) → zero < one
    → ((i : ℕ) → i < n → Near F k (w i * z) (one * v i)) → Near F d all (sum n w)
    → (share i : ℕ) → i < n → Near F 1 (share * all) (one * w i) → Near F (k + k + d + 1) (share * sum n v) (one * v i)
share_near {F} {k} {d} {all} one n z w v p h t share i l q =
    let zs : sum n (λ i. w i * z) ≡ z * sum n w = sum_cong n (λ i _. mul_comm (w i) z) ∙ mul_sum n z w in
    let sums : Near F k (z * sum n w) (one * sum n v) = near_eq (near_sum n h) (sym zs) (sym (mul_sum n one v)) in
    let a : Near F k (share * (one * sum n v)) (share * (z * sum n w)) = near_scale share (near_sym sums) in
    let b : Near F d (share * (z * sum n w)) (z * (share * all)) = near_eq (near_scale (z * share) (near_sym t)) (omega arith) (omega arith) in
    let c : Near F (1 + k) (z * (share * all)) (one * (one * v i)) = near_trans (near_scale z q) (near_eq (near_scale one (h i l)) (omega arith) refl) in
    near_cancel p (near_eq (near_more (omega arith) (near_trans a (near_trans b c))) (omega arith) refl)

module _ {F : Factor} {X : Type 0} {O : Ops X} {one : ℕ} {val : X → ℕ} {Fit : X → Type 0} (P : Promises F O one val Fit)
    (r : ℕ) (a : ℕ → ℕ → X) (rate : Rates) (filled : (i j : ℕ) → i < suc r → j < suc r → i ≢ j → val (a i j) ≡ rate i j * one)
    (c : Irreducible (suc r) rate) where
  -- the matrix holds the chain in units
  pub filled_irreducible : Irreducible (suc r) (vals val a)
  filled_irreducible = irreducible_of (λ i j li lj d q. rw (filled i j li lj d) (mul-pos q P.one_pos)) c

  pub filled_weight : (i : ℕ) → i < suc r → weight (suc r) (vals val a) i ≡ one ^ r * weight (suc r) rate i
  filled_weight i l = weight_scale r rate (vals val a) i one l (λ u v hu hv d. filled u v hu hv d ∙ mul_comm (rate u v) one)

  module _ (h : AllFit O Fit r a) where
    -- the weights, within the count of this chain's own steps
    pub elimination_count_bound : (i : ℕ) → i < suc r
        → Near F (elimination_count O val r a) (val (weights O r a i) * weight (suc r) rate r) (one * weight (suc r) rate i)
    elimination_count_bound i l =
        near_cancel (one-le-pow r one P.one_pos)
        (near_eq (own_bound P r a h filled_irreducible i l) (rw (filled_weight r (omega arith)) (omega arith)) (rw (filled_weight i l) (omega arith)))

    -- and within the bound count of the order
    pub elimination_bound : (i : ℕ) → i < suc r
        → Near F (bound_count (suc r)) (val (weights O r a i) * weight (suc r) rate r) (one * weight (suc r) rate i)
    elimination_bound i l = near_more (elimination_count_le O val r a) (elimination_count_bound i l)

    -- the exact weights themselves, by the product of the computed pivots
    pub elimination_absolute_bound : (i : ℕ) → i < suc r
        → Near F (elimination_count O val r a) (val (weights O r a i) * pivot_product O val r a) (one ^ suc r * weight (suc r) rate i)
    elimination_absolute_bound i l =
        near_eq (own_bound_absolute P r a h filled_irreducible i l) refl (rw (filled_weight i l, pow-suc one r) (omega arith))

    -- every computed weight is positive
    pub weights_positive : (i : ℕ) → i < suc r → zero < val (weights O r a i)
    weights_positive i l =
        pos_left (val (weights O r a i)) (weight (suc r) rate r)
        (near_pos (elimination_count_bound i l) (mul-pos P.one_pos (weight_pos (suc r) rate c i l)))

  module _ (h : AllFitShares O Fit r a) where
    total_weights_near : Near F r (val (total O (suc r) (weights O r a))) (sum (suc r) (λ i. val (weights O r a i)))
    total_weights_near =
        near_more (omega (arith, positives_le (suc r) (λ i. val (weights O r a i))))
        (total_near P (suc r) (weights O r a) (all_weights_fit O Fit r a h.elimination) h.sums)

    -- so their sum is
    pub total_positive : zero < val (total O (suc r) (weights O r a))
    total_positive = near_pos total_weights_near (sum_pos (suc r) (λ i. val (weights O r a i)) zero (omega arith) (weights_positive h.elimination zero (omega arith)))

    pub share_count_bound : (i : ℕ) → i < suc r
        → Near F (2 * elimination_count O val r a + suc r) (val (shares O r a i) * sum (suc r) (weight (suc r) rate)) (one * weight (suc r) rate i)
    unfolding shares
    share_count_bound i l =
        near_more (omega arith)
        (share_near one (suc r) (weight (suc r) rate r) (λ i. val (weights O r a i)) (weight (suc r) rate) P.one_pos
        (elimination_count_bound h.elimination) total_weights_near (val (shares O r a i)) i l
        (P.divided (weights O r a i) (total O (suc r) (weights O r a)) (all_weights_fit O Fit r a h.elimination i l)
        (h.sums (suc r) (le_refl _)) (h.shares_fit i l) total_positive))

    pub share_bound : (i : ℕ) → i < suc r
        → Near F (2 * bound_count (suc r) + suc r) (val (shares O r a i) * sum (suc r) (weight (suc r) rate)) (one * weight (suc r) rate i)
    share_bound i l = near_more (omega (arith, elimination_count_le O val r a)) (share_count_bound i l)
