-- Places changed one after another, and rows one after another. Assumes nothing.
use Prim.Native.Nat.{ℕ, suc, ◌+◌, ◌≤◌, ◌<◌}
use mathlib.Core.List.{List}
use mathlib.Core.Logic.{◌⊎◌, inl, inr, ⊎_elim}
use mathlib.Core.Path.{◌≡◌, refl, sym, ap, ◌∙◌}
use native.Mathlib.Nat.{eq-or-lt_of_le}
use native.Mathlib.Numerals.{add-one}
use native.Mathlib.Decide.{dec_lt}
use native.Mathlib.Omega.{arith}
use lib.Dec.{leb, eqb}
use lib.ListN.{length, get_or, set, replicate, length-set}
use lib.Seq.{get_or-set_same, get_or-set_other}
use Rattle.basics.specs.Below.{count}
use Rattle.basics.specs.First.{first}
use Rattle.basics.proofs.SumLaws.{sum_zero, sum_last, sum_most}
use Rattle.basics.proofs.BoolLaws.{count_most}
use Rattle.basics.proofs.FirstLaws.{first_cong}
use Rattle.basics.proofs.FillLaws.{get_or_replicate, length_replicate}
use Rattle.group_table.specs.Rules.{row_count, first_state, last_state, group_number, holds, holders, in_two_rows, in_no_row, first_in_two, first_in_none}
use Rattle.group_table.specs.Sound.{Held, SoundTable}
use Rattle.groups.specs.Inner.{Changed, Counted, LookedUp}
use Rattle.group_table.proofs.StateLaws.{held_true, not_held, group_is}

-- the places from `from` up to, not including, `to` were mapped by f, the others are as they were
pub record Mapped (f : ℕ → ℕ) (from to : ℕ) (l l' : List ℕ) : Type 0 where
  pub kept : length l' ≡ length l
  pub inside : (s : ℕ) → from ≤ s → s < to → get_or l' s 0 ≡ f (get_or l s 0)
  pub before : (s : ℕ) → s < from → get_or l' s 0 ≡ get_or l s 0
  pub behind : (s : ℕ) → to ≤ s → get_or l' s 0 ≡ get_or l s 0

module _ (f : ℕ → ℕ) (from : ℕ) (l : List ℕ) where
  -- kept since the port: today the check finds what cited it
  pub mapped_none : Mapped f from from l l
  mapped_none = record { kept = refl; inside = λ s a b. absurd (omega arith); before = λ s a. refl; behind = λ s a. refl }

  -- kept since the port: today the check finds what cited it
  pub mapped_next : {to : ℕ} {l' : List ℕ} (x : ℕ) → Mapped f from to l l' → from ≤ to → to < length l → x ≡ f (get_or l' to 0)
      → Mapped f from (to + 1) l (set l' to x)
  mapped_next {to} {l'} x h a b e = record {
    kept = length-set l' to x ∙ h.kept;
    inside = λ s c d. ⊎_elim
        (λ (q : s ≡ to).
        rw (q, get_or-set_same l' to x 0 (omega (arith, h.kept)), ← h.behind to (omega arith)) e)
        (λ m. get_or-set_other l' to s x 0 (λ q. omega arith) ∙ h.inside s c m)
        (eq-or-lt_of_le (omega arith));
    before = λ s c. get_or-set_other l' to s x 0 (λ q. omega arith) ∙ h.before s c;
    behind = λ s c. get_or-set_other l' to s x 0 (λ q. omega arith) ∙ h.behind s (omega arith);
  }

  -- kept since the port: today the check finds what cited it
  pub mapped_end : {to last : ℕ} {l' : List ℕ} → Mapped f from to l l' → to ≡ last + 1 → Changed f from last l l'
  mapped_end h e = record {
    kept = h.kept;
    inside = λ s a b. h.inside s a (omega arith);
    before = h.before;
    behind = λ s a. h.behind s (omega arith);
  }

-- ---- the rows counted, one after another

-- a state lies in a row, or before it, or behind it
place_of : (table : List ℕ) (state row : ℕ) → Held table state row ⊎ ((state < first_state table row) ⊎ (last_state table row < state))
place_of table state row = go (dec_lt state (first_state table row)) (dec_lt (last_state table row) state)
  where
    go : Dec (state < first_state table row) → Dec (last_state table row < state)
        → Held table state row ⊎ ((state < first_state table row) ⊎ (last_state table row < state))
    go (yes a) d = inr (inl a)
    go (no a) (yes b) = inr (inr b)
    go (no a) (no b) = inl (record { from = omega arith; to = omega arith })

module _ (table : List ℕ) where
  holders_next : (k state : ℕ) → holders table (k + 1) state ≡ holders table k state + count (holds table state k)
  unfolding holders
  holders_next k state = rw (add-one k) (sum_last k (λ row. count (holds table state row)))

  -- no more rows hold a state than there are
  pub holders_most : (k state : ℕ) → holders table k state ≤ k
  unfolding holders
  holders_most k state = omega (arith, sum_most k 1 (λ row. count (holds table state row)) (λ row _. count_most (holds table state row)))

  pub counted_next : {k : ℕ} {seen seen' : List ℕ} → Counted table k seen → Changed suc (first_state table k) (last_state table k) seen seen'
      → Counted table (k + 1) seen'
  counted_next {k} {seen} {seen'} h c = record { long = c.kept ∙ h.long; at = λ s l. go s l (place_of table s k) }
    where
      held : (s : ℕ) → Held table s k → count (holds table s k) ≡ 1
      held s m = unfold count in rw (held_true table s k m)

      other : (s : ℕ) → (Held table s k → ⊥) → count (holds table s k) ≡ 0
      other s m = unfold count in rw (not_held table s k m)

      go : (s : ℕ) → s < 64 → Held table s k ⊎ ((s < first_state table k) ⊎ (last_state table k < s)) → get_or seen' s 0 ≡ holders table (k + 1) s
      go s l (inl m) = omega (arith, c.inside s m.from m.to, h.at s l, holders_next k s, held s m)
      go s l (inr (inl m)) = omega (arith, c.before s m, h.at s l, holders_next k s, other s (λ b. omega (arith, b.from)))
      go s l (inr (inr m)) = omega (arith, c.behind s m, h.at s l, holders_next k s, other s (λ b. omega (arith, b.to)))

-- before the first row
pub counted_none : (table : List ℕ) → Counted table 0 (replicate 64 0)
unfolding holders
counted_none table = record { long = length_replicate {A = ℕ} 0 64; at = λ s l. get_or_replicate {A = ℕ} 0 64 s ∙ sym (sum_zero (λ row. count (holds table s row))) }

-- with all rows counted, the searches of 12 and 11 are those of the table
module _ {n : ℕ} {table seen : List ℕ} (order : n ≤ 64) (h : Counted table (row_count table) seen) where
  pub two_counted : first (λ s. leb 2 (get_or seen s 0)) 0 n ≡ first_in_two n table
  two_counted = first_cong _ (in_two_rows table) 0 n (λ s a b. ap (leb 2) (h.at s (omega arith)))

  pub none_counted : first (λ s. eqb (get_or seen s 0) 0) 0 n ≡ first_in_none n table
  none_counted = first_cong _ (in_no_row table) 0 n (λ s a b. ap (λ (x : ℕ). eqb x 0) (h.at s (omega arith)))

-- ---- the groups put, row after row

-- each state of the rows below k has its row's group
pub record Filled (table : List ℕ) (k : ℕ) (of : List ℕ) : Type 0 where
  pub at : (row state : ℕ) → row < k → Held table state row → get_or of state 0 ≡ group_number table row

-- kept since the port: today the check finds what cited it
pub filled_none : (table of : List ℕ) → Filled table 0 of
filled_none table of = record { at = λ row state l h. absurd (omega arith) }

module _ {n : ℕ} {table : List ℕ} (sound : SoundTable n table) where
  pub filled_next : {k : ℕ} {of of' : List ℕ} → k < row_count table → Filled table k of
      → Changed (λ _. group_number table k) (first_state table k) (last_state table k) of of' → Filled table (k + 1) of'
  filled_next {k} {of} {of'} b f c = record { at = at }
    where
      -- no other row holds a state of row k
      never : (row state : ℕ) → row < k → Held table state row → Held table state k → ⊥
      never row state l h m =
          let one = sound.states state (omega (arith, m.to, (sound.rows.row k b).last_below)) in
          omega (arith, one.only row (omega arith) h, one.only k b m)

      lower : (row state : ℕ) → row < k → Held table state row → Held table state k ⊎ ((state < first_state table k) ⊎ (last_state table k < state))
          → get_or of' state 0 ≡ group_number table row
      lower row state l h (inl m) = absurd (never row state l h m)
      lower row state l h (inr (inl m)) = c.before state m ∙ f.at row state l h
      lower row state l h (inr (inr m)) = c.behind state m ∙ f.at row state l h

      at : (row state : ℕ) → row < k + 1 → Held table state row → get_or of' state 0 ≡ group_number table row
      at row state l h =
          ⊎_elim (λ (e : row ≡ k). rw e (let m : Held table state k = rw (← e) h in c.inside state m.from m.to))
          (λ m. lower row state m h (place_of table state k))
          (eq-or-lt_of_le (omega arith))

  pub filled_end : {of : List ℕ} → Filled table (row_count table) of → LookedUp n table of
  filled_end f = record {
    at = λ s l. let one = sound.states s l in f.at one.row s one.below one.held ∙ sym (group_is table s one);
  }
