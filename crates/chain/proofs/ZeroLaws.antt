-- 14: the first entry of rate 0 is the one that the computed places name, and there is only one. Assumes nothing.
use Prim.Native.Nat.{ℕ, zero, suc, ◌+◌, ◌-◌, ◌<◌, ◌≤◌}
use mathlib.Core.Bool.{Bool, true, false, cond}
use mathlib.Core.Path.{◌≡◌, refl, sym, ap, ◌∙◌}
use native.Mathlib.Numerals.{add-one}
use native.Mathlib.Omega.{arith}
use lib.Dec.{ltb}
use lib.ListN.{length, get_or}
use borrow.Author.Tests.{eqb-true, eqb-false, ltb-true, ltb-false, lt-ltb, le-ltb}
use Rattle.refusal.specs.Table.{accepts, refuses, of_chain, numbered}
use Rattle.std.specs.Prelude.{Option, Some, None}
use Rattle.basics.specs.First.{found}
use Rattle.basics.proofs.FirstLaws.{IsFirst, first_is}
use Rattle.basics.proofs.FoundLaws.{found_some, found_none}
use Rattle.basics.proofs.BoolLaws.{by_true, by_false}
use Rattle.chain.specs.Rows.{Rows, begins, ends, column_at}
use Rattle.chain.specs.Rules.{zero_at, first_zero, ends_after, row_of, zeros_checked}
use Rattle.chain.specs.Sound.{Sound, AllPositive, FirstZero, Says, rate_zero, all_hold}
use Rattle.chain.proofs.SoundLaws.{start_before}

module _ (c : Rows) where
  -- the verdict from the first place
  zero_at_lem : (place : ℕ) → place ≡ first_zero c.rates → place < length c.rates
      → refuses of_chain (numbered 14 (row_of c.order c.starts place) (column_at c place)) ≡ zeros_checked c
  unfolding zeros_checked
  zero_at_lem place p l = by_true _ _ (lt-ltb _ _ (rw p at l)) (rw p)

  zero_nowhere : (place : ℕ) → place ≡ first_zero c.rates → length c.rates ≤ place → accepts (length c.columns) ≡ zeros_checked c
  unfolding zeros_checked
  zero_nowhere place p l = by_false _ _ (le-ltb _ _ (rw p at l)) refl

  -- the search of the rates
  zero_search : IsFirst (zero_at c.rates) 0 (length c.rates) (first_zero c.rates)
  zero_search = first_is (zero_at c.rates) 0 (length c.rates) (omega arith)

  positive_before : (p : ℕ) → p < first_zero c.rates → 0 < get_or c.rates p 0
  positive_before p l = let d = eqb-false (get_or c.rates p 0) 0 (zero_search.before p (omega arith) l) in omega arith

  none_zero : length c.rates ≤ first_zero c.rates → AllPositive c.rates
  none_zero h place l = positive_before place (omega arith)

  module _ (s : Sound c) where
    -- the row of a place
    row_search : (place : ℕ) → IsFirst (ends_after c.starts place) 0 c.order (row_of c.order c.starts place)
    row_search place = first_is (ends_after c.starts place) 0 c.order (omega arith)

    module _ (place : ℕ) (l : place < length c.columns) where
      pub row_below : row_of c.order c.starts place < c.order
      row_below = go (ltb (row_of c.order c.starts place) c.order) refl
        where
          go : (b : Bool) → ltb (row_of c.order c.starts place) c.order ≡ b → row_of c.order c.starts place < c.order
          go true t = ltb-true (row_of c.order c.starts place) c.order t
          go false t =
              let low = s.order.low in
              let e : c.order - 1 + 1 ≡ c.order = omega arith in
              let z : ends c (c.order - 1) ≤ place =
              ltb-false place (ends c (c.order - 1))
              ((row_search place).before (c.order - 1) (omega arith) (omega (arith, ltb-false (row_of c.order c.starts place) c.order t))) in
              absurd (omega (arith, rw e at z, s.starts_rule.last))

      row_ends : place < ends c (row_of c.order c.starts place)
      row_ends = ltb-true _ _ ((row_search place).found row_below)

      row_begins : begins c (row_of c.order c.starts place) ≤ place
      row_begins = go (row_of c.order c.starts place) refl
        where
          go : (row : ℕ) → row_of c.order c.starts place ≡ row → begins c row ≤ place
          go zero e = omega (arith, s.starts_rule.first)
          go (suc row) e = rw add-one at (ltb-false place (ends c row) ((row_search place).before row (omega arith) (omega arith)))

    first_zero_lem : first_zero c.rates < length c.rates → FirstZero c (row_of c.order c.starts (first_zero c.rates)) (first_zero c.rates)
    first_zero_lem l =
        let l' : first_zero c.rates < length c.columns = omega (arith, s.lengths) in
        record {
          row_below = row_below (first_zero c.rates) l';
          from = row_begins (first_zero c.rates) l';
          to = row_ends (first_zero c.rates) l';
          is_zero = eqb-true (get_or c.rates (first_zero c.rates) 0) 0 (zero_search.found l);
          before = positive_before;
        }

    -- the verdict from what the search of the rates has found
    pub zeros_found : {r : Option ℕ} (place row : ℕ) → r ≡ found (zero_at c.rates) 0 (length c.rates) → r ≡ Some place → row ≡ row_of c.order c.starts place
        → refuses of_chain (numbered 14 row (column_at c place)) ≡ zeros_checked c
    zeros_found place row e t q =
        let k = found_some (zero_at c.rates) 0 (length c.rates) place (sym e ∙ t) in
        rw q (zero_at_lem place k.0 k.1)

  pub zeros_place : {r : Option ℕ} (place : ℕ) → r ≡ found (zero_at c.rates) 0 (length c.rates) → r ≡ Some place → place < length c.rates
  zeros_place place e t = (found_some (zero_at c.rates) 0 (length c.rates) place (sym e ∙ t)).1

  pub zeros_none : {r : Option ℕ} → r ≡ found (zero_at c.rates) 0 (length c.rates) → r ≡ None → accepts (length c.columns) ≡ zeros_checked c
  zeros_none e t = zero_nowhere _ refl (omega (arith, found_none (zero_at c.rates) 0 (length c.rates) (omega arith) (sym e ∙ t)))

  module _ (s : Sound c) where
    -- what the verdict says of the rates holds
    pub zeros_say : Says c (zeros_checked c)
    unfolding zeros_checked
    zeros_say = go (ltb (first_zero c.rates) (length c.rates)) refl
      where
        go : (b : Bool) → ltb (first_zero c.rates) (length c.rates) ≡ b
            → Says c
            (cond b (refuses of_chain (numbered 14 (row_of c.order c.starts (first_zero c.rates)) (column_at c (first_zero c.rates))))
            (accepts (length c.columns)))
        go true t = rate_zero s (first_zero_lem s (ltb-true _ _ t))
        go false t = all_hold (record { sound = s; positive = none_zero (ltb-false _ _ t) })

    -- ---- there is only one first entry of rate 0

    module _ {row place : ℕ} (h : FirstZero c row place) where
      place_within : place < length c.rates
      place_within = omega (arith, h.to, start_before s.starts_rule (row + 1) c.order (omega (arith, h.row_below)) (omega arith), s.starts_rule.last, s.lengths)

      there : first_zero c.rates < length c.rates
      there = go (ltb (first_zero c.rates) (length c.rates)) refl
        where
          go : (b : Bool) → ltb (first_zero c.rates) (length c.rates) ≡ b → first_zero c.rates < length c.rates
          go true t = ltb-true _ _ t
          go false t = absurd (omega (arith, none_zero (ltb-false _ _ t) place place_within, h.is_zero))

      module _ {i p : ℕ} (k : FirstZero c i p) where
        not_left : p < place → ⊥
        not_left l = omega (arith, h.before p l, k.is_zero)

        not_lower : p ≡ place → i < row → ⊥
        not_lower e l = omega (arith, k.to, h.from, start_before s.starts_rule (i + 1) row (omega arith) (omega (arith, h.row_below)))

    pub first_zero_is : {row place : ℕ} → FirstZero c row place → refuses of_chain (numbered 14 row (column_at c place)) ≡ zeros_checked c
    first_zero_is {row} {place} h =
        let k = first_zero_lem s (there h) in
        let e : place ≡ first_zero c.rates = omega (arith, not_left h k, not_left k h) in
        let q : row ≡ row_of c.order c.starts (first_zero c.rates) = omega (arith, not_lower h k (sym e), not_lower k h e) in
        let q' : row ≡ row_of c.order c.starts place = q ∙ ap (row_of c.order c.starts) (sym e) in
        rw q' (zero_at_lem place e (place_within h))

  pub none_zero_is : AllPositive c.rates → accepts (length c.columns) ≡ zeros_checked c
  none_zero_is h = go (ltb (first_zero c.rates) (length c.rates)) refl
    where
      go : (b : Bool) → ltb (first_zero c.rates) (length c.rates) ≡ b → accepts (length c.columns) ≡ zeros_checked c
      go true t =
          let l = ltb-true _ _ t in
          absurd (omega (arith, h (first_zero c.rates) l, eqb-true (get_or c.rates (first_zero c.rates) 0) 0 (zero_search.found l)))
      go false t = zero_nowhere (first_zero c.rates) refl (ltb-false _ _ t)
