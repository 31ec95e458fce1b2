-- R-7: the range theorem holds of the closed set of every chain that passes the other checks, so every number met is a scaled number, well
-- inside the range, and nothing is divided by Zero. Assumes nothing.
use mathlib.Core.Bool.{Bool}
use mathlib.Core.Logic.{◌≢◌, inl, inr, ⊎_elim}
use mathlib.Core.Path.{◌≡◌, sym, ap, ◌∙◌}
use Prim.Native.Nat.{ℕ, zero, suc, ◌+◌, ◌-◌, ◌^◌, ◌≤◌, ◌<◌}
use native.Mathlib.Nat.{eq-zero-or-pos}
use native.Mathlib.Omega.{arith}
use lib.ListN.{get_or}
use Rattle.markov.specs.Closed.{Closed, size, member, alone, set_shares}
use Rattle.markov.specs.Elimination.{total, pivot_of, quotient_at, weights, shares}
use Rattle.markov.specs.Promises.{AllFit, AllFitShares}
use Rattle.markov.proofs.FitMaps.{shares_fit_map}
use Rattle.markov.proofs.Members.{member_below, size_le, size_mono}
use Rattle.markov.proofs.ClosedLaws.{last_place, alone_irreducible}
use Rattle.range.specs.Bounds.{most_states, most_rate, margin}
use Rattle.range.specs.Range.{Filled, Within, picked}
use Rattle.range.proofs.Range.{range, range_groups, range_fits}
use Rattle.scaled.specs.declared.Scaled.{Scaled}
use Rattle.scaled.specs.Scaled.{zero_number}
use Rattle.scaled.specs.Units.{val, one}
use Rattle.scaled.proofs.Laws as laws
use Rattle.chain.specs.Rows.{Rows}
use Rattle.chain.specs.Sound.{Sound}
use Rattle.chain.specs.Meaning.{rate_in}
use Rattle.chain.proofs.RateLaws.{Move, rate_move, entry_rate}
use Rattle.reach.specs.Answer.{set_of}
use Rattle.kernel.specs.Numbers.{Fit, divided_by, ops, stage}
use Rattle.kernel.proofs.Operands.{over_both}
use Rattle.steps.proofs.Steps.{stage_fits}
use Rattle.solver.specs.Solve.{entries, set_size, set_entries, shares_of, WellInside, AllInside}
use Rattle.solver.proofs.Operations.{promises, factor_mild, ample}
use Rattle.solver.proofs.SetSums.{picked_spread}

well_inside : (x : Scaled) → Within one val Fit x → WellInside x
unfolding margin
well_inside x w = record {
  scaled = w.fits;
  exponent =
      ⊎_elim (λ z. inl (laws.zero_of_value x w.fits z)) (λ p. inr (omega (arith, laws.exponent_within x w.fits margin p (w.least p) w.most))) (eq-zero-or-pos (val x));
}

-- what divides is not Zero
divisor : (x y : Scaled) → Fit (divided_by x y) → y ≢ zero_number
divisor x y f = (over_both x y f).2

module _ {c : Rows} (s : Sound c) (words : (p : ℕ) → get_or c.rates p 0 < 4294967296) where
  -- a rate between two states is one of the rates, or 0
  rate_word : (i j : ℕ) → i < c.order → rate_in c i j < 2 ^ 32
  rate_word i j hi = ⊎_elim (λ z. omega arith) (λ z. of_move (rate_move c i j z)) (eq-zero-or-pos (rate_in c i j))
    where
      of_move : Move c i j → rate_in c i j < 2 ^ 32
      of_move m =
          let q : rate_in c i j ≡ get_or c.rates m.place 0 = ap (rate_in c i) (sym m.column) ∙ entry_rate s i hi m.place m.from m.to in
          omega (arith, words m.place)

  module _ (closed : Closed c.order (rate_in c) (set_of c)) where
    last : suc (set_size c - 1) ≡ set_size c
    unfolding set_size
    last = last_place closed

    filled : Filled one val Fit most_states most_rate (set_size c - 1) (set_entries c) (alone c.order (set_of c) (rate_in c))
    unfolding entries set_size set_entries alone most_states most_rate
    filled = record {
      order = omega (arith, s.order.high, last, size_le c.order (set_of c));
      irreducible = rw last (alone_irreducible closed);
      rates = λ p q hp hq _. omega (arith, word p q hp);
      fits = λ p q hp hq _. laws.rate_scaled _ (word p q hp);
      is = λ p q _ _ _. laws.rate_value _;
    }
      where
        word : (p q : ℕ) → p < suc (set_size c - 1) → rate_in c (member c.order (set_of c) p) (member c.order (set_of c) q) < 2 ^ 32
        word p q hp = rate_word _ _ (member_below c.order (set_of c) p (omega (arith, last)))

    -- every number met is a scaled number
    pub all_fit : AllFitShares ops Fit (set_size c - 1) (set_entries c)
    all_fit = range_fits promises factor_mild ample filled

    pivot_some : (k : ℕ) → k + 1 < set_size c → pivot_of ops (set_size c - (k + 1)) (stage (set_size c) k (set_entries c)) ≢ zero_number
    unfolding quotient_at
    pivot_some k l = go (set_size c - (k + 1)) (omega arith) (stage_fits (set_size c) (set_entries c) all_fit.elimination k (omega arith))
      where
        go : (r : ℕ) → 0 < r → AllFit ops Fit r (stage (set_size c) k (set_entries c)) → pivot_of ops r (stage (set_size c) k (set_entries c)) ≢ zero_number
        go zero p f = absurd (omega arith)
        go (suc r) p f = divisor (stage (set_size c) k (set_entries c) 0 1) (pivot_of ops (suc r) (stage (set_size c) k (set_entries c))) (f.0.quotients 0 (omega arith))

    total_some : total ops (set_size c) (weights ops (set_size c - 1) (set_entries c)) ≢ zero_number
    unfolding shares
    total_some =
        rw last at
        (divisor (weights ops (set_size c - 1) (set_entries c) 0) (total ops (suc (set_size c - 1)) (weights ops (set_size c - 1) (set_entries c))) (all_fit.shares_fit 0 (omega arith)))

    -- a sum of those shares of the set that a test picks, by place
    set_groups : (test : ℕ → Bool) (k : ℕ) → k ≤ set_size c → Within one val Fit (picked ops test (shares ops (set_size c - 1) (set_entries c)) k)
    set_groups test k l = range_groups promises factor_mild ample filled test k (omega (arith, last))

    groups : (test : ℕ → Bool) (k : ℕ) → k ≤ c.order → WellInside (picked ops test (shares_of c) k)
    unfolding shares_of set_shares set_size set_entries
    groups test k l =
        let test' : ℕ → Bool = λ p. test (member c.order (set_of c) p) in
        rw (picked_spread c.order (set_of c) test _ (λ j m. (set_groups test' j m).fits) k l)
        (well_inside _ (set_groups test' (size k (set_of c)) (size_mono k c.order (set_of c) l)))

    pub in_range : AllInside c
    in_range = record {
      numbers_met = shares_fit_map ops well_inside (set_size c - 1) (set_entries c) (range promises factor_mild ample filled);
      pivots = pivot_some;
      total_weight = total_some;
      groups = groups;
    }
