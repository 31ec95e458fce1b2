-- The definition `table_checked` gives exactly the verdict whose facts hold. Assumes nothing.
use Prim.Native.Nat.{ℕ, ◌<◌, ◌≤◌}
use mathlib.Core.Bool.{Bool, true, false, cond, false≢true}
use mathlib.Core.List.{List}
use mathlib.Core.Path.{◌≡◌, refl, sym, ap, ◌∙◌}
use native.Mathlib.Omega.{arith}
use lib.Dec.{ltb}
use borrow.Author.Tests.{lt-ltb, le-ltb, ltb-true, ltb-false}
use Rattle.basics.proofs.BoolLaws.{by_true, by_false, not_so}
use Rattle.basics.proofs.FirstLaws.{IsFirst, first_is, first_at, first_nowhere}
use Rattle.refusal.specs.Table.{Verdict, accepts, refuses, of_chain, numbered}
use Rattle.group_table.specs.Rules.{row_count, row_bad, in_two_rows, in_no_row, first_bad_row, first_in_two, first_in_none, table_checked}
use Rattle.group_table.specs.Sound.{SoundRows, FirstBad, InTwoRows, InOneRow, FirstInTwo, FirstInNone, SoundTable, TableSays, bad_row, state_in_two_rows, state_in_no_row, fits}
use Rattle.group_table.proofs.RowLaws.{fault_bad, bad_fault, good_sound, sound_good}
use Rattle.group_table.proofs.StateLaws.{two_rows, two_rows_of, no_row, no_row_of, one_row, not_in_two, not_in_none}

module _ (n : ℕ) (table : List ℕ) where
  -- ---- what the three searches say

  of_rows : IsFirst (row_bad n table) 0 (row_count table) (first_bad_row n table)
  of_rows = first_is (row_bad n table) 0 (row_count table) (omega arith)

  of_two : IsFirst (in_two_rows table) 0 n (first_in_two n table)
  of_two = first_is (in_two_rows table) 0 n (omega arith)

  of_none : IsFirst (in_no_row table) 0 n (first_in_none n table)
  of_none = first_is (in_no_row table) 0 n (omega arith)

  bad : first_bad_row n table < row_count table → FirstBad n table (first_bad_row n table)
  bad l = record {
    below = l;
    fault = bad_fault n table _ (of_rows.found l);
    before = λ r m. good_sound n table r (of_rows.before r (omega arith) m);
  }

  pub rows_sound : row_count table ≤ first_bad_row n table → SoundRows n table
  rows_sound l = record { row = λ r m. good_sound n table r (of_rows.before r (omega arith) (omega arith)) }

  two : first_in_two n table < n → FirstInTwo n table (first_in_two n table)
  two l = record {
    below = l;
    twice = two_rows table _ (of_two.found l);
    before = λ s m t. false≢true (sym (of_two.before s (omega arith) m) ∙ two_rows_of table s t);
  }

  never_two : n ≤ first_in_two n table → (s : ℕ) → s < n → in_two_rows table s ≡ false
  never_two l s m = of_two.before s (omega arith) (omega arith)

  none : n ≤ first_in_two n table → first_in_none n table < n → FirstInNone n table (first_in_none n table)
  none l m = record {
    below = m;
    missing = no_row table _ (of_none.found m);
    before = λ s b. one_row table s (never_two l s (omega arith)) (of_none.before s (omega arith) b);
  }

  -- ---- what the verdict says of the table holds

  pub checked_says : TableSays n table (table_checked n table)
  unfolding table_checked
  checked_says = at_rows (ltb (first_bad_row n table) (row_count table)) refl
    where
      at_none : SoundRows n table → n ≤ first_in_two n table → (b : Bool) → ltb (first_in_none n table) n ≡ b
          → TableSays n table (cond b (refuses of_chain (numbered 11 (first_in_none n table) 0)) (accepts (row_count table)))
      at_none s l true t =
          state_in_no_row s (record { never = λ v m w. false≢true (sym (never_two l v m) ∙ two_rows_of table v w) }) (none l (ltb-true _ _ t))
      at_none s l false t =
          let m = ltb-false (first_in_none n table) n t in
          fits (record { rows = s; states = λ v b. one_row table v (never_two l v b) (of_none.before v (omega arith) (omega arith)) })

      past_two : Verdict ℕ
      past_two = cond (ltb (first_in_none n table) n) (refuses of_chain (numbered 11 (first_in_none n table) 0)) (accepts (row_count table))

      at_two : SoundRows n table → (b : Bool) → ltb (first_in_two n table) n ≡ b
          → TableSays n table (cond b (refuses of_chain (numbered 12 (first_in_two n table) 0)) past_two)
      at_two s true t = state_in_two_rows s (two (ltb-true _ _ t))
      at_two s false t = at_none s (ltb-false _ _ t) _ refl

      at_rows : (b : Bool) → ltb (first_bad_row n table) (row_count table) ≡ b
          → TableSays n table
          (cond b (refuses of_chain (numbered 13 (first_bad_row n table) 0)) (cond (ltb (first_in_two n table) n) (refuses of_chain (numbered 12 (first_in_two n table) 0)) past_two))
      at_rows true t = bad_row (bad (ltb-true _ _ t))
      at_rows false t = at_two (rows_sound (ltb-false _ _ t)) _ refl

  -- the two promises of `check_table` from the first
  pub check_means : {v : Verdict ℕ} → v ≡ table_checked n table → (v ≡ table_checked n table) × TableSays n table v
  check_means e = (e, rw e checked_says)

  -- ---- the verdict from the three searches

  pub refuse_13 : {r : ℕ} → r ≡ first_bad_row n table → r < row_count table → refuses of_chain (numbered 13 r 0) ≡ table_checked n table
  unfolding table_checked
  refuse_13 e l = by_true _ _ (lt-ltb (first_bad_row n table) (row_count table) (omega arith)) (ap (λ (r : ℕ). refuses of_chain (numbered 13 r 0)) e)

  module _ (good : row_count table ≤ first_bad_row n table) where
    pub refuse_12 : {s : ℕ} → s ≡ first_in_two n table → s < n → refuses of_chain (numbered 12 s 0) ≡ table_checked n table
    unfolding table_checked
    refuse_12 e l =
        by_false _ _ (le-ltb _ _ good)
        (by_true _ _ (lt-ltb (first_in_two n table) n (omega arith)) (ap (λ (s : ℕ). refuses of_chain (numbered 12 s 0)) e))

    module _ (once : n ≤ first_in_two n table) where
      pub refuse_11 : {s : ℕ} → s ≡ first_in_none n table → s < n → refuses of_chain (numbered 11 s 0) ≡ table_checked n table
      unfolding table_checked
      refuse_11 e l =
          by_false _ _ (le-ltb _ _ good)
          (by_false _ _ (le-ltb _ _ once)
          (by_true _ _ (lt-ltb (first_in_none n table) n (omega arith)) (ap (λ (s : ℕ). refuses of_chain (numbered 11 s 0)) e)))

      pub accept : n ≤ first_in_none n table → accepts (row_count table) ≡ table_checked n table
      unfolding table_checked
      accept l = by_false _ _ (le-ltb _ _ good) (by_false _ _ (le-ltb _ _ once) (by_false _ _ (le-ltb _ _ l) refl))

  -- ---- a verdict whose facts hold is the verdict

  bad_at_lem : {row : ℕ} → FirstBad n table row → first_bad_row n table ≡ row
  bad_at_lem {row} h =
      first_at (row_bad n table) (row_count table) row h.below (fault_bad n table row h.fault) (λ j l. sound_good n table j (h.before j l))

  good_rows : SoundRows n table → row_count table ≤ first_bad_row n table
  good_rows h = omega (arith, first_nowhere (row_bad n table) (row_count table) (λ j l. sound_good n table j (h.row j l)))

  two_at : {state : ℕ} → FirstInTwo n table state → first_in_two n table ≡ state
  two_at {state} h =
      first_at (in_two_rows table) n state h.below (two_rows_of table state h.twice) (λ j l. not_so _ (λ t. h.before j l (two_rows table j t)))

  none_two : ((s : ℕ) → s < n → InTwoRows table s → ⊥) → n ≤ first_in_two n table
  none_two h = omega (arith, first_nowhere (in_two_rows table) n (λ j l. not_so _ (λ t. h j l (two_rows table j t))))

  none_at : {state : ℕ} → FirstInNone n table state → first_in_none n table ≡ state
  none_at {state} h =
      first_at (in_no_row table) n state h.below (no_row_of table state h.missing)
      (λ j l. not_so _ (λ t. not_in_none table j (h.before j l) (no_row table j t)))

  none_missing : ((s : ℕ) → s < n → InOneRow table s) → n ≤ first_in_none n table
  none_missing h = omega (arith, first_nowhere (in_no_row table) n (λ j l. not_so _ (λ t. not_in_none table j (h j l) (no_row table j t))))

  pub says_checked : {v : Verdict ℕ} → TableSays n table v → v ≡ table_checked n table
  says_checked (bad_row h) = refuse_13 (sym (bad_at_lem h)) h.below
  says_checked (state_in_two_rows s h) = refuse_12 (good_rows s) (sym (two_at h)) h.below
  says_checked (state_in_no_row s k h) = refuse_11 (good_rows s) (none_two k.never) (sym (none_at h)) h.below
  says_checked (fits h) = accept (good_rows h.rows) (none_two (λ s l. not_in_two table s (h.states s l))) (none_missing h.states)

  -- a table is accepted if and only if all rules hold
  pub sound_accepted : SoundTable n table → table_checked n table ≡ accepts (row_count table)
  sound_accepted h = sym (says_checked (fits h))

  pub accepted_sound : {k : ℕ} → table_checked n table ≡ accepts k → SoundTable n table
  accepted_sound {k} e = of_says (table_checked n table) checked_says e
    where
      of_says : (v : Verdict ℕ) → TableSays n table v → v ≡ accepts k → SoundTable n table
      of_says v (fits h) q = h
      of_says v (bad_row h) q = let z : ◌≡◌ {A = ℕ} 0 1 = cc in absurd (omega arith)
      of_says v (state_in_two_rows s h) q = let z : ◌≡◌ {A = ℕ} 0 1 = cc in absurd (omega arith)
      of_says v (state_in_no_row s k h) q = let z : ◌≡◌ {A = ℕ} 0 1 = cc in absurd (omega arith)
