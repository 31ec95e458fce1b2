-- A state's tests, by the number of rows that hold it, and the facts: in two rows, in none, in exactly one. Assumes nothing.
use Prim.Native.Nat.{ℕ, ◌<◌}
use mathlib.Core.Bool.{true, false}
use mathlib.Core.List.{List}
use mathlib.Core.Path.{◌≡◌}
use native.Mathlib.Decide.{ℕ_discrete, dec_lt}
use native.Mathlib.Omega.{arith}
use lib.Dec.{leb}
use borrow.Author.Tests.{le-leb, leb-true, leb-false, eqb-true, eqb-false, eq-eqb}
use Rattle.basics.proofs.BoolLaws.{and_yes, both, not_so}
use Rattle.basics.proofs.FirstLaws.{first_at}
use Rattle.group_table.specs.Rules.{row_count, first_state, group_number, holds, holders, in_two_rows, in_no_row, group_of}
use Rattle.group_table.specs.Sound.{Held, InTwoRows, InNoRow, InOneRow}
use Rattle.group_table.proofs.Counting.{once_of, once_at, twice_of, twice_at}

module _ (table : List ℕ) (state : ℕ) where
  pub held_of : (row : ℕ) → holds table state row ≡ true → Held table state row
  held_of row t = let b = both (leb (first_state table row) state) _ t in record { from = leb-true _ _ b.0; to = leb-true _ _ b.1 }

  pub held_true : (row : ℕ) → Held table state row → holds table state row ≡ true
  held_true row h = and_yes _ _ (le-leb _ _ h.from) (le-leb _ _ h.to)

  pub not_held : (row : ℕ) → (Held table state row → ⊥) → holds table state row ≡ false
  not_held row h = not_so _ (λ t. h (held_of row t))

  -- ---- 12

  pub two_rows : in_two_rows table state ≡ true → InTwoRows table state
  unfolding holders
  two_rows t =
      let h = twice_at (holds table state) (row_count table) (leb-true _ _ t) in
      record {
        one = h.one;
        other = h.other;
        rising = h.rising;
        below = h.below;
        by_one = held_of _ h.at_one;
        by_other = held_of _ h.at_other;
      }

  pub two_rows_of : InTwoRows table state → in_two_rows table state ≡ true
  unfolding holders
  two_rows_of h =
      le-leb 2 _
      (twice_of (holds table state) (row_count table)
      (record {
        one = h.one;
        other = h.other;
        rising = h.rising;
        below = h.below;
        at_one = held_true _ h.by_one;
        at_other = held_true _ h.by_other;
      }))

  -- ---- 11

  pub no_row : in_no_row table state ≡ true → InNoRow table state
  unfolding holders
  no_row t = record {
    none = λ row l h.
        let z : holders table (row_count table) state ≡ 0 = eqb-true _ 0 t in
        omega (arith, once_of (holds table state) (row_count table) row l (held_true row h));
  }

  pub no_row_of : InNoRow table state → in_no_row table state ≡ true
  unfolding holders
  no_row_of h = eq-eqb (holders table (row_count table) state) 0 (go (dec_lt 0 (holders table (row_count table) state)))
    where
      go : Dec (0 < holders table (row_count table) state) → holders table (row_count table) state ≡ 0
      go (yes p) = let a = once_at (holds table state) (row_count table) p in absurd (h.none a.0 a.1 (held_of _ a.2))
      go (no p) = omega arith

  -- ---- in exactly one

  pub one_row : in_two_rows table state ≡ false → in_no_row table state ≡ false → InOneRow table state
  unfolding holders
  one_row t z = record { row = a.0; below = a.1; held = held_of _ a.2; only = only }
    where
      some : 0 < holders table (row_count table) state
      some = let d = eqb-false (holders table (row_count table) state) 0 z in go (dec_lt 0 (holders table (row_count table) state)) d
        where
          go : Dec (0 < holders table (row_count table) state) → (holders table (row_count table) state ≡ 0 → ⊥) → 0 < holders table (row_count table) state
          go (yes p) d = p
          go (no p) d = absurd (d (omega arith))

      a : (r : ℕ) × (r < row_count table) × (holds table state r ≡ true)
      a = once_at (holds table state) (row_count table) some

      never : (i j : ℕ) → i < j → j < row_count table → holds table state i ≡ true → holds table state j ≡ true → ⊥
      never i j l m p q =
          let w = twice_of (holds table state) (row_count table) (record { one = i; other = j; rising = l; below = m; at_one = p; at_other = q }) in
          let v : holders table (row_count table) state < 2 = leb-false 2 _ t in
          omega arith

      only : (other : ℕ) → other < row_count table → Held table state other → other ≡ a.0
      only other l h =
          elim (ℕ_discrete other a.0) [
            | yes e ↦ e
            | no d ↦ absurd (elim (dec_lt other a.0) [
              | yes m ↦ never other a.0 m a.1 (held_true _ h) a.2
              | no m ↦ never a.0 other (omega arith) l a.2 (held_true _ h)
            ])
          ]

  module _ (h : InOneRow table state) where
    pub not_in_two : InTwoRows table state → ⊥
    not_in_two t =
        omega (arith, h.only t.one (omega (arith, t.rising, t.below)) t.by_one, h.only t.other t.below t.by_other, t.rising)

    pub not_in_none : InNoRow table state → ⊥
    not_in_none z = z.none h.row h.below h.held

    -- its group is that of its row
    pub group_is : group_of table state ≡ group_number table h.row
    unfolding group_of
    group_is =
        rw (first_at (holds table state) (row_count table) h.row h.below (held_true _ h.held)
        (λ j l. not_held j (λ k. omega (arith, h.only j (omega (arith, h.below)) k))))
