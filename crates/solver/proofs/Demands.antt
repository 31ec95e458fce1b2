-- Demands 2 and 3 for what is computed. Assumes nothing.
use mathlib.Core.Bool.{Bool}
use mathlib.Core.Logic.{◌≢◌}
use mathlib.Core.Path.{◌≡◌, ap, ◌∙◌}
use Prim.Native.Nat.{ℕ, ◌-◌, ◌*◌, ◌<◌}
use native.Mathlib.Nat.{mul-pos, zero-mul}
use native.Mathlib.Omega.{arith}
use Rattle.basics.specs.Near.{Near}
use Rattle.basics.proofs.NearLaws.{near_pos}
use Rattle.markov.specs.Chain.{Rates}
use Rattle.markov.specs.Closed.{OnlyClosed, Closed, set_weights, set_shares}
use Rattle.markov.specs.Promises.{AllFitShares}
use Rattle.markov.proofs.ClosedLaws.{closed_size}
use Rattle.markov.proofs.SetBalance.{spread_out, spread_all, set_weight_pos}
use Rattle.markov.proofs.SetBound.{set_weights_last, set_weights_near, set_shares_near}
use Rattle.markov.proofs.FitMaps.{all_weights_fit}
use Rattle.scaled.specs.declared.Scaled.{Scaled}
use Rattle.scaled.specs.Scaled.{zero_number, rate_of}
use Rattle.scaled.specs.Units.{val, one, factor}
use Rattle.scaled.proofs.Laws as laws
use Rattle.chain.specs.Rows.{Rows}
use Rattle.chain.specs.Meaning.{rate_in}
use Rattle.reach.specs.Answer.{set_of}
use Rattle.reach.proofs.OneClosed.{only_balances, only_unique, only_outside}
use Rattle.kernel.specs.Numbers.{Fit, ops}
use Rattle.solver.specs.Solve.{entries, set_size, set_entries, weights_of, shares_of, count_of, Balancing, Accurate}
use Rattle.solver.proofs.Operations.{promises}

-- ---- demand 2

pub balancing : (n : ℕ) (rate : Rates) {set : ℕ → Bool} → OnlyClosed n rate set → Balancing n rate set
balancing n rate o = record {
  balances = only_balances n rate o;
  unique = λ w b. only_unique n rate o b.balanced;
  outside = λ w b. only_outside n rate o b.balanced;
}

-- ---- demand 3

-- a number that is near an exact one above 0 is not Zero
not_zero : {k : ℕ} (x : Scaled) (t w : ℕ) → 0 < w → Near factor k (val x * t) (one * w) → x ≢ zero_number
not_zero x t w p h e =
    let z : val x * t ≡ 0 = ap (λ (y : Scaled). val y * t) e ∙ ap (λ (y : ℕ). y * t) laws.zero_value ∙ zero-mul t in
    absurd (omega (arith, z, near_pos h (mul-pos laws.one_pos p)))

pub accurate : (c : Rows) → Closed c.order (rate_in c) (set_of c) → AllFitShares ops Fit (set_size c - 1) (set_entries c)
    → Accurate c.order (rate_in c) (set_of c) (count_of c) (weights_of c) (shares_of c)
unfolding weights_of shares_of set_weights set_shares entries set_size set_entries count_of
accurate c o fit =
    let some = closed_size o in
    let filled : (i j : ℕ) → i < c.order → j < c.order → i ≢ j → val (rate_of (rate_in c i j)) ≡ rate_in c i j * one = λ i j _ _ _. laws.rate_value (rate_in c i j) in
    let weights = set_weights_near promises o (entries c) filled fit.elimination in
    let shares = set_shares_near promises o (entries c) filled fit in
    record {
      weights_scaled = spread_all (set_of c) zero_number _ Fit c.order laws.zero_scaled (λ p l. all_weights_fit ops Fit _ _ fit.elimination p (omega arith));
      shares_scaled = spread_all (set_of c) zero_number _ Fit c.order laws.zero_scaled (λ p l. fit.shares_fit p (omega arith));
      weights_outside = λ i l t. spread_out (set_of c) zero_number _ i t;
      shares_outside = λ i l t. spread_out (set_of c) zero_number _ i t;
      weights_inside = λ i l t. not_zero _ _ _ (set_weight_pos o i l t) (weights i l);
      shares_inside = λ i l t. not_zero _ _ _ (set_weight_pos o i l t) (shares i l);
      last_weight = set_weights_last promises o (entries c) filled;
      weights = weights;
      shares = shares;
    }
