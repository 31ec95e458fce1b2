-- THE ERROR BOUND ON THE WHOLE CHAIN: the computed weights and shares of the closed set, Zero elsewhere, against the exact ones, 0
-- elsewhere; the counts are those of the set's size. Assumes nothing but the operations' promises and that the numbers met fit.
use mathlib.Core.Bool.{Bool, true, false}
use mathlib.Core.Logic.{◌≢◌}
use mathlib.Core.Path.{◌≡◌, refl, sym, ap, ◌∙◌}
use Prim.Native.Nat.{ℕ, zero, suc, ◌+◌, ◌-◌, ◌*◌, ◌<◌}
use native.Mathlib.Nat.{zero-mul, mul-zero}
use native.Mathlib.Omega.{arith}
use Rattle.basics.specs.Sum.{sum}
use Rattle.basics.specs.Near.{Factor, Near}
use Rattle.basics.proofs.NearLaws.{near_same, near_eq}
use Rattle.markov.specs.Chain.{Rates}
use Rattle.markov.specs.Weight.{weight}
use Rattle.markov.specs.Elimination.{Ops, weights, shares}
use Rattle.markov.specs.Count.{bound_count}
use Rattle.markov.specs.Promises.{Promises, AllFit, AllFitShares}
use Rattle.markov.proofs.EliminationBound.{elimination_bound, share_bound}
use Rattle.markov.specs.Closed.{Closed, size, member, last, alone, spread, set_weight, set_weights, set_shares}
use Rattle.markov.proofs.Members.{member_below, place_member, place_below}
use Rattle.markov.proofs.ClosedLaws.{closed_size, last_place, alone_irreducible}
use Rattle.markov.proofs.SetBalance.{spread_in, spread_out, spread_member, sum_spread}

-- the last weight is 1
weights_last : {X : Type 0} (O : Ops X) (r : ℕ) (a : ℕ → ℕ → X) → weights O r a r ≡ O.unit
unfolding weights
weights_last O zero a = refl
weights_last O (suc r) a = weights_last O r _

-- what is near at each place of the set is near at each state, both sides being 0 elsewhere
spread_near : {F : Factor} {X : Type 0} {k : ℕ} (nought : X) (val : X → ℕ) (n one z : ℕ) (set : ℕ → Bool) (f : ℕ → X) (v : ℕ → ℕ) → val nought ≡ zero
    → ((p : ℕ) → p < size n set → Near F k (val (f p) * z) (one * v p))
    → (i : ℕ) → i < n → Near F k (val (spread set nought f i) * z) (one * spread set 0 v i)
spread_near {F} {k = k} nought val n one z set f v e h i l = go (set i) refl
  where
    go : (t : Bool) → set i ≡ t → Near F k (val (spread set nought f i) * z) (one * spread set 0 v i)
    go true t = rw (spread_in set nought f i t, spread_in set 0 v i t) (h (size i set) (place_below n set i l t))
    go false t = rw (spread_out set nought f i t, spread_out set 0 v i t, e) (near_eq (near_same {x = 0} k) (zero-mul z) (mul-zero one))

module _ {F : Factor} {X : Type 0} {O : Ops X} {one : ℕ} {val : X → ℕ} {Fit : X → Type 0} (P : Promises F O one val Fit)
    {n : ℕ} {rate : Rates} {set : ℕ → Bool} (c : Closed n rate set)
    (a : ℕ → ℕ → X) (filled : (i j : ℕ) → i < n → j < n → i ≢ j → val (a i j) ≡ rate i j * one) where
  -- the matrix of the set is filled with its rates
  alone_filled : (p q : ℕ) → p < size n set → q < size n set → p ≢ q → val (alone n set a p q) ≡ alone n set rate p q * one
  unfolding alone
  alone_filled p q hp hq d =
      filled (member n set p) (member n set q) (member_below n set p hp) (member_below n set q hq)
      (λ e. d (sym (place_member n set p hp) ∙ ap (λ (i : ℕ). size i set) e ∙ place_member n set q hq))

  -- the weight of the set's last state is 1
  pub set_weights_last : set_weights O n set a (last n set) ≡ O.unit
  unfolding set_weights last
  set_weights_last = spread_member set O.nought _ n (size n set - 1) (omega (arith, closed_size c)) ∙ weights_last O (size n set - 1) (alone n set a)

  last_weight : set_weight n rate set (last n set) ≡ weight (size n set) (alone n set rate) (size n set - 1)
  unfolding set_weight last
  last_weight = spread_member set 0 _ n (size n set - 1) (omega (arith, closed_size c))

  pub set_weights_near : AllFit O Fit (size n set - 1) (alone n set a) → (i : ℕ) → i < n
      → Near F (bound_count (size n set)) (val (set_weights O n set a i) * set_weight n rate set (last n set)) (one * set_weight n rate set i)
  unfolding set_weight set_weights
  set_weights_near h i l =
      near_eq (spread_near O.nought val n one (weight (size n set) (alone n set rate) (size n set - 1)) set _ _ P.nought_is places i l)
      (ap (λ (z : ℕ). val (set_weights O n set a i) * z) last_weight) refl
    where
      places : (p : ℕ) → p < size n set
          → Near F (bound_count (size n set))
          (val (weights O (size n set - 1) (alone n set a) p) * weight (size n set) (alone n set rate) (size n set - 1)) (one * weight (size n set) (alone n set rate) p)
      places p m =
          rw (last_place c) at
          (elimination_bound P (size n set - 1) (alone n set a) (alone n set rate) (rw (last_place c) alone_filled) (rw (last_place c) (alone_irreducible c)) h p (rw (last_place c) m))

  pub set_shares_near : AllFitShares O Fit (size n set - 1) (alone n set a) → (i : ℕ) → i < n
      → Near F (2 * bound_count (size n set) + size n set) (val (set_shares O n set a i) * sum n (set_weight n rate set)) (one * set_weight n rate set i)
  unfolding set_weight set_shares
  set_shares_near h i l =
      near_eq (spread_near O.nought val n one (sum (size n set) (weight (size n set) (alone n set rate))) set _ _ P.nought_is places i l)
      (ap (λ (z : ℕ). val (set_shares O n set a i) * z) (sum_spread n set (weight (size n set) (alone n set rate)))) refl
    where
      places : (p : ℕ) → p < size n set
          → Near F (2 * bound_count (size n set) + size n set)
          (val (shares O (size n set - 1) (alone n set a) p) * sum (size n set) (weight (size n set) (alone n set rate))) (one * weight (size n set) (alone n set rate) p)
      places p m =
          rw (last_place c) at
          (share_bound P (size n set - 1) (alone n set a) (alone n set rate) (rw (last_place c) alone_filled) (rw (last_place c) (alone_irreducible c)) h p (rw (last_place c) m))
