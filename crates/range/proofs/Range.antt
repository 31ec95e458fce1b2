-- The range theorem with document 01's numbers: at most 64 states, rates of 32 bits; every number met is 0, or at least 2^-margin
-- and at most 2^margin. Assumes nothing.
use mathlib.Core.Bool.{Bool}
use Prim.Native.Nat.{ℕ, suc, ◌*◌, ◌^◌, ◌≤◌}
use native.Mathlib.Nat.{le_trans, mul-le-mul_left}
use lib.Dec.{lit≤}
use Rattle.basics.specs.Near.{Factor, Mild}
use Rattle.markov.specs.Chain.{Rates}
use Rattle.markov.specs.Elimination.{Ops, shares}
use Rattle.markov.specs.Count.{bound_count}
use Rattle.markov.specs.Promises.{Promises, AllFitShares}
use Rattle.markov.proofs.FitMaps.{shares_fit_map}
use Rattle.range.specs.Bounds.{most_states, most_rate, margin, entry_bound, pivot_bound, weight_bound, room_bound}
use Rattle.range.specs.Range.{Ample, Filled, picked, Within, Met, InRoom}
use Rattle.range.proofs.AnyOrder.{in_room}
use Rattle.range.proofs.Sizes.{sized_more}

-- less room asks less
roomy_less : {X : Type 0} {O : Ops X} {one : ℕ} {val : X → ℕ} {Fit : X → Type 0} {s t : ℕ} → s ≤ t → Ample O one val Fit t → Ample O one val Fit s
roomy_less {one = one} {val = val} l R = record {
  nought_fits = R.nought_fits;
  unit_fits = R.unit_fits;
  add_fits = λ x y fx fy top. R.add_fits x y fx fy (le_trans top (mul-le-mul_left one l));
  left_le = R.left_le;
  mul_fits = λ x y fx fy low top.
      R.mul_fits x y fx fy (λ p. le_trans (low p) (mul-le-mul_left (val x * val y) l)) (le_trans top (mul-le-mul_left (one * one) l));
  div_fits = λ x y fx fy p low top.
      R.div_fits x y fx fy p (λ q. le_trans (low q) (mul-le-mul_left (val x) l)) (le_trans top (mul-le-mul_left (val y) l));
}

-- the bound on whatever is met is 2^13290: computed
pub room_margin : room_bound most_states most_rate ≤ 2 ^ margin
unfolding most_states most_rate margin entry_bound pivot_bound weight_bound room_bound
room_margin = lit≤ tt

module _ {F : Factor} {X : Type 0} {O : Ops X} {one : ℕ} {val : X → ℕ} {Fit : X → Type 0} (P : Promises F O one val Fit)
    (M : Mild F (bound_count most_states)) (R : Ample O one val Fit (2 ^ margin))
    {r : ℕ} {a : ℕ → ℕ → X} {rate : Rates} (H : Filled one val Fit most_states most_rate r a rate) where
  -- the bounds by name
  pub range_bounds : InRoom O one val Fit most_states most_rate r a
  unfolding most_states most_rate
  range_bounds = in_room (record { promises = P; roomy = roomy_less room_margin R; mild = M; states = lit≤ tt; rates = lit≤ tt }) H

  within : (x : X) → Met O one val Fit most_states most_rate x → Within one val Fit x
  within x = sized_more room_margin room_margin

  -- every number met has its margin
  pub range : AllFitShares O (Within one val Fit) r a
  range = shares_fit_map O within r a range_bounds.numbers

  -- and so has every sum of shares, from nought with the state rising, of the states that a test picks
  pub range_groups : (test : ℕ → Bool) (k : ℕ) → k ≤ suc r → Within one val Fit (picked O test (shares O r a) k)
  range_groups test k l = within (picked O test (shares O r a) k) (range_bounds.groups test k l)

  -- so every number met is one
  pub range_fits : AllFitShares O Fit r a
  range_fits = shares_fit_map O (λ x s. s.fits) r a range
