-- The back substitution: every weight has its size, by the error bound and the exact weights of the chain that the elimination began
-- with; so every number met in it has. Then all steps together. Assumes nothing.
use mathlib.Core.Path.{refl}
use Prim.Native.Nat.{ℕ, zero, suc, ◌*◌, ◌≤◌, ◌<◌}
use native.Mathlib.Nat.{le_refl, le-mul_of_pos_right, mul-le-mul_left, mul-le-mul_right}
use native.Mathlib.Omega.{arith}
use Rattle.basics.specs.Near.{Factor, Near}
use Rattle.basics.proofs.NearLaws.{near_trans, near_more, near_eq, near_scale, near_cancel}
use Rattle.basics.proofs.MildLaws.{within_2}
use Rattle.markov.specs.Weight.{weight}
use Rattle.markov.specs.Elimination.{Ops, total, pivot_of, next, weights}
use Rattle.markov.specs.Count.{bound_count}
use Rattle.markov.specs.Promises.{FitsBack, AllFit}
use Rattle.markov.proofs.Bound.{vals, own_bound}
use Rattle.markov.proofs.CountLaws.{elimination_count_le}
use Rattle.markov.proofs.FitMaps.{all_weights_fit}
use Rattle.markov.proofs.Positive.{weight_pos}
use Rattle.range.specs.Bounds.{entry_bound, pivot_bound, weight_bound, room_bound}
use Rattle.range.specs.Range.{Numbers, Between, StepsBounded, WeightBounded, Met}
use Rattle.range.proofs.Sizes.{sized_more, total_sized, mul_sized, div_sized}
use Rattle.range.proofs.Steps.{Reached, bounds, met, met_promises, column, step_bounded, on_fits, next_reached}

module _ {F : Factor} {X : Type 0} {O : Ops X} {one : ℕ} {val : X → ℕ} {Fit : X → Type 0} {n top : ℕ} (N : Numbers F O one val Fit n top) where
  abbrev A : ℕ
  A = entry_bound n top

  abbrev B : ℕ
  B = pivot_bound n top

  abbrev Q : ℕ
  Q = weight_bound n top

  abbrev Has : ℕ → ℕ → X → Type 0
  Has = Between one val Fit

  abbrev Fits : X → Type 0
  Fits = Met O one val Fit n top

  -- ---- the weights of a matrix all of whose numbers fit

  module _ {k t r : ℕ} {a : ℕ → ℕ → X} {z : ℕ → ℕ} (I : Reached F one val Fit n top k t r a z) (h : AllFit O Fits r a) where
    -- against the exact weights that the elimination began with
    weight_near : (i : ℕ) → i < suc r → Near F (bound_count n) (val (weights O r a i) * z r) (one * z i)
    weight_near i l =
        let w = val (weights O r a i) in
        let v = weight (suc r) (vals val a) in
        let own : Near F (bound_count (suc r)) (v r * (w * z r)) (one * (v i * z r)) =
        near_eq (near_scale (z r) (near_more (elimination_count_le O val r a) (own_bound (met_promises N) r a h I.irreducible i l))) (omega arith) (omega arith) in
        let same : Near F t (one * (v i * z r)) (v r * (one * z i)) = near_eq (near_scale one (I.proportion i l)) refl (omega arith) in
        near_more (omega arith) (near_cancel (weight_pos (suc r) (vals val a) I.irreducible r (omega arith)) (near_trans own same))

    pub weights_bounded : (i : ℕ) → i < suc r → WeightBounded O one val Fit n top (weights O r a i)
    weights_bounded i l = record {
      sized = record {
        fits = (all_weights_fit O Fits r a h i l).fits;
        least = λ p. least;
        most =
            omega (
              arith,
              within_2 N.mild (le_refl _) (weight_near i l).under,
              le-mul_of_pos_right w (I.exact_pos r (omega arith)),
              mul-le-mul_left one (I.exact_most i l),
            );
      };
      positive = pos w least;
    }
      where
        w : ℕ
        w = val (weights O r a i)

        least : one ≤ w * Q
        least =
            omega (
              arith,
              within_2 N.mild (le_refl _) (weight_near i l).over,
              le-mul_of_pos_right one (I.exact_pos i l),
              mul-le-mul_left w (I.exact_most r (omega arith)),
            )

        pos : (w : ℕ) → one ≤ w * Q → zero < w
        pos zero p = absurd (omega (arith, N.promises.one_pos))
        pos (suc w) p = omega arith

  -- ---- one step back

  module _ {k t r : ℕ} {a : ℕ → ℕ → X} {z : ℕ → ℕ} (I : Reached F one val Fit n top k t (suc r) a z) (h : AllFit O Fits r (next O (suc r) a)) where
    term : ℕ → X
    term j = O.mul (weights O r (next O (suc r) a) j) (a (suc j) zero)

    later : (j : ℕ) → j < suc r → Has Q Q (weights O r (next O (suc r) a) j)
    later j l = (weights_bounded (next_reached N I) h j l).sized

    terms : (j : ℕ) → j < suc r → Has (2 * (Q * Q)) (2 * (Q * A)) (term j)
    unfolding term
    terms j l = mul_sized N (later j l) (column N I j l) (omega (arith, bounds N)) (omega (arith, bounds N))

    sums : (m : ℕ) → m ≤ suc r → Has (2 * (2 * (Q * Q))) (2 * (Q * B)) (total O m term)
    sums m l =
        sized_more (le_refl _) (omega (arith, bounds N))
        (total_sized N (suc r) term terms (omega arith) (omega (arith, bounds N)) m l)

    first : Has (2 * (4 * (Q * Q * B))) (2 * (4 * (Q * Q * B))) (weights O (suc r) a zero)
    unfolding weights term
    first =
        let s = step_bounded N I in
        let flow = sums (suc r) (le_refl _) in
        div_sized N (4 * (Q * Q * B)) (4 * (Q * Q * B)) {x = total O (suc r) term} {y = pivot_of O (suc r) a} flow.fits s.pivot.fits s.pivot_pos
        (λ p. omega (arith, s.pivot.most, mul-le-mul_right B (flow.least p)))
        (omega (arith, flow.most, mul-le-mul_right (2 * (Q * B)) (s.pivot.least s.pivot_pos)))
        (omega (arith, bounds N)) (omega (arith, bounds N))

    back_fits : FitsBack O Fits (suc r) a (weights O (suc r) a)
    unfolding weights term
    back_fits = record {
      weights_fit = weights_met;
      terms = λ j l. met N (omega (arith, bounds N)) (omega (arith, bounds N)) (terms j l);
      sums = λ m l. met N (omega (arith, bounds N)) (omega (arith, bounds N)) (sums m l);
    }
      where
        weights_met : (i : ℕ) → i < suc (suc r) → Fits (weights O (suc r) a i)
        weights_met zero l = met N (omega (arith, bounds N)) (omega (arith, bounds N)) first
        weights_met (suc i) l = met N (omega (arith, bounds N)) (omega (arith, bounds N)) (later i (omega arith))

  unit_fits : Fits O.unit
  unit_fits = record { fits = N.roomy.unit_fits; least = λ p. rw N.promises.unit_is at_least_1; most = rw N.promises.unit_is at_least_1 }
    where
      at_least_1 : one ≤ one * room_bound n top
      at_least_1 = le-mul_of_pos_right one (omega (arith, bounds N))

  -- ---- all steps

  pub all_fit : (r : ℕ) {k t : ℕ} {a : ℕ → ℕ → X} {z : ℕ → ℕ} → Reached F one val Fit n top k t r a z → AllFit O Fits r a
  all_fit zero I = unit_fits
  all_fit (suc r) I = let h = all_fit r (next_reached N I) in (on_fits N I, back_fits I h, h)

  pub all_bounded : (r : ℕ) {k t : ℕ} {a : ℕ → ℕ → X} {z : ℕ → ℕ} → Reached F one val Fit n top k t r a z → StepsBounded O one val Fit n top r a
  all_bounded zero I = tt
  all_bounded (suc r) I = (step_bounded N I, all_bounded r (next_reached N I))
