-- THE RANGE THEOREM: every number met in the elimination of a chain of at most n states with rates at most top, in its shares and in
-- sums of them, is 0 or lies between 1 / roomBound and roomBound, if the operations give numbers there. Assumes nothing.
use mathlib.Core.Path.{◌≡◌, sym, subst}
use mathlib.Core.Bool.{Bool}
use Prim.Native.Nat.{ℕ, zero, suc, ◌*◌, ◌^◌, ◌≤◌, ◌<◌}
use native.Mathlib.Nat.{le_trans, le_refl, mul-le-mul_left, mul-le-mul_right, pow-zero, pow-suc}
use native.Mathlib.Omega.{arith}
use Rattle.basics.specs.Near.{Factor}
use Rattle.basics.proofs.SumLaws.{sum_pos}
use Rattle.basics.proofs.NearLaws.{at_most_of_le, near_same, near_eq}
use Rattle.markov.specs.Chain.{Rates}
use Rattle.markov.specs.Weight.{weight}
use Rattle.markov.specs.Elimination.{Ops, total, weights, shares}
use Rattle.markov.specs.Promises.{AllFit}
use Rattle.markov.proofs.Bound.{vals}
use Rattle.markov.proofs.EliminationBound.{filled_irreducible, filled_weight}
use Rattle.markov.proofs.Positive.{weight_pos}
use Rattle.range.specs.Bounds.{pivot_bound, weight_bound, room_bound}
use Rattle.range.specs.Range.{Numbers, Between, Filled, picked, WeightBounded, Met, InRoom}
use Rattle.range.proofs.Walks.{cheap_of}
use Rattle.range.proofs.Entries.{Positive, AtLeast}
use Rattle.range.proofs.Sizes.{total_sized, term_le_total, total_pos, div_sized}
use Rattle.range.proofs.Rooms.{exact_room, count_mono}
use Rattle.range.proofs.Steps.{Reached, bounds, met}
use Rattle.range.proofs.Back.{weights_bounded, all_fit, all_bounded}
use Rattle.range.proofs.ExactWeights.{weight_most}
use Rattle.range.proofs.Groups.{picked_plain}

module _ {F : Factor} {X : Type 0} {O : Ops X} {one : ℕ} {val : X → ℕ} {Fit : X → Type 0} {n top : ℕ} (N : Numbers F O one val Fit n top)
    {r : ℕ} {a : ℕ → ℕ → X} {rate : Rates} (H : Filled one val Fit n top r a rate) where
  abbrev Q : ℕ
  Q = weight_bound n top

  abbrev Has : ℕ → ℕ → X → Type 0
  Has = Between one val Fit

  -- ---- the matrix that is filled in

  whole : (i j c : ℕ) → Positive (suc r) (vals val a) i j c → AtLeast one (pivot_bound n top) (suc r) (vals val a) i j c
  whole i j c m = record {
    i_below = m.i_below;
    j_below = m.j_below;
    apart = m.apart;
    least =
        rw (m.cost, pow-suc (pivot_bound n top) 0, pow-zero (pivot_bound n top))
        (omega (arith, mul-le-mul_right (pivot_bound n top) (go (rate i j) (H.is i j m.i_below m.j_below m.apart) m.pos)));
  }
    where
      go : (x : ℕ) → val (a i j) ≡ x * one → zero < val (a i j) → one ≤ val (a i j)
      go zero e p = absurd (omega arith)
      go (suc x) e p = omega arith

  start : Reached F one val Fit n top zero zero r a (weight (suc r) rate)
  start = record {
    steps = omega (arith, H.order);
    factors = omega (arith, count_mono (suc r) n H.order);
    irreducible = filled_irreducible N.promises r a rate H.is H.irreducible;
    fits = H.fits;
    upper = λ i j li lj ne. at_most_of_le zero (rw (pow-zero 2) (omega (arith, H.is i j li lj ne, mul-le-mul_right one (H.rates i j li lj ne))));
    lower = cheap_of whole;
    exact_pos = weight_pos (suc r) rate H.irreducible;
    exact_most = λ i l. le_trans (mul-le-mul_left 2 (weight_most (suc r) top rate i l N.rates H.rates)) (exact_room n top N.states N.rates (suc r) (omega arith) H.order);
    proportion = λ i l. rw (scaled i l, scaled r (omega arith)) (near_eq {x = one ^ r * (weight (suc r) rate i * weight (suc r) rate r)} (near_same zero) (omega arith) (omega arith));
  }
    where
      scaled : (i : ℕ) → i < suc r → weight (suc r) (vals val a) i ≡ one ^ r * weight (suc r) rate i
      scaled = filled_weight N.promises r a rate H.is H.irreducible

  elimination_fits : AllFit O (Met O one val Fit n top) r a
  elimination_fits = all_fit N r start

  -- ---- the weights and their sum

  weight_of : (i : ℕ) → i < suc r → WeightBounded O one val Fit n top (weights O r a i)
  weight_of = weights_bounded N start elimination_fits

  sized_weight : (i : ℕ) → i < suc r → Has Q Q (weights O r a i)
  sized_weight i l = (weight_of i l).sized

  weights_room : 2 * (n * Q) ≤ room_bound n top
  weights_room = omega (arith, bounds N)

  sums : (k : ℕ) → k ≤ suc r → Has (2 * Q) (2 * (n * Q)) (total O k (weights O r a))
  sums = total_sized N (suc r) (weights O r a) sized_weight H.order weights_room

  sum_positive : zero < val (total O (suc r) (weights O r a))
  sum_positive =
      total_pos N (suc r) (weights O r a) sized_weight H.order weights_room
      (sum_pos (suc r) (λ i. val (weights O r a i)) zero (omega arith) (weight_of zero (omega arith)).positive)

  -- ---- the shares, and sums of them

  share : (i : ℕ) → i < suc r → Has (2 * (2 * (n * (Q * Q)))) (2 * 2) (shares O r a i)
  unfolding shares
  share i l =
      div_sized N (2 * (n * (Q * Q))) 2 {x = weights O r a i} {y = total O (suc r) (weights O r a)}
      (sized_weight i l).fits (sums (suc r) (le_refl _)).fits sum_positive
      (λ p. omega (arith, (sums (suc r) (le_refl _)).most, mul-le-mul_right (2 * (n * Q)) ((sized_weight i l).least p)))
      (omega (arith, term_le_total N (suc r) (weights O r a) sized_weight H.order weights_room i l))
      (omega (arith, bounds N)) (omega (arith, bounds N))

  group : (test : ℕ → Bool) (k : ℕ) → k ≤ suc r → Met O one val Fit n top (picked O test (shares O r a) k)
  group test k l =
      let p = picked_plain O (shares O r a) test k in
      subst (Met O one val Fit n top) (sym p.is)
      (met N (omega (arith, bounds N)) (omega (arith, bounds N))
      (total_sized N p.size (λ j. shares O r a (p.at j)) (λ j m. share (p.at j) (omega (arith, p.at_below j m)))
      (omega (arith, H.order)) (omega (arith, bounds N)) p.size (le_refl _)))

  pub in_room : InRoom O one val Fit n top r a
  in_room = record {
    numbers = record {
      elimination = elimination_fits;
      sums = λ k l. met N (omega (arith, bounds N)) (omega (arith, bounds N)) (sums k l);
      shares_fit = λ i l. met N (omega (arith, bounds N)) (omega (arith, bounds N)) (share i l);
    };
    groups = group;
    steps = all_bounded N r start;
    weights_bounded = weight_of;
    total_pos = sum_positive;
  }
