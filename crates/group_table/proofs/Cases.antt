-- Tables evaluated by the definitions: each edge of 13, 12 and 11, and their order. Assumes nothing.
use Prim.Native.Nat.{ℕ}
use mathlib.Core.List.{[], ◌∷◌}
use mathlib.Core.Path.{◌≡◌, refl}
use Rattle.basics.specs.Sum.{sum}
use Rattle.basics.specs.Below.{count}
use Rattle.basics.specs.Lists.{table}
use Rattle.refusal.specs.Table.{accepts, refuses, of_chain, numbered}
use Rattle.range.specs.Range.{picked}
use Rattle.scaled.specs.declared.Scaled.{Scaled}
use Rattle.scaled.specs.Scaled.{zero_number}
use Rattle.kernel.specs.Numbers.{plus}
use Rattle.group_table.specs.Rules.{row_bad, holders, table_checked, group_of}
use Rattle.group_table.specs.Sums.{group_share}

-- ---- accepted: states 0 to 2 and 4 in group 7, state 3 in group 15, rows in no order

pub accepted : table_checked 5 (3 ∷ 3 ∷ 15 ∷ 4 ∷ 4 ∷ 7 ∷ 0 ∷ 2 ∷ 7 ∷ []) ≡ accepts 3
unfolding table_checked row_bad holders sum count
accepted = refl

pub groups_are : table 5 (group_of (3 ∷ 3 ∷ 15 ∷ 4 ∷ 4 ∷ 7 ∷ 0 ∷ 2 ∷ 7 ∷ [])) ≡ 7 ∷ 7 ∷ 7 ∷ 15 ∷ 7 ∷ []
unfolding group_of table
groups_are = refl

-- ---- 13

-- a last row of one number, and of two
pub cut_by_two : table_checked 2 (0 ∷ 1 ∷ 3 ∷ 0 ∷ []) ≡ refuses of_chain (numbered 13 1 0)
unfolding table_checked row_bad
cut_by_two = refl

pub cut_by_one : table_checked 2 (0 ∷ 1 ∷ []) ≡ refuses of_chain (numbered 13 0 0)
unfolding table_checked row_bad
cut_by_one = refl

pub first_above_last : table_checked 3 (0 ∷ 0 ∷ 0 ∷ 2 ∷ 1 ∷ 0 ∷ []) ≡ refuses of_chain (numbered 13 1 0)
unfolding table_checked row_bad
first_above_last = refl

pub last_at_n : table_checked 3 (0 ∷ 3 ∷ 0 ∷ []) ≡ refuses of_chain (numbered 13 0 0)
unfolding table_checked row_bad
last_at_n = refl

pub first_at_n : table_checked 3 (0 ∷ 2 ∷ 0 ∷ 3 ∷ 3 ∷ 1 ∷ []) ≡ refuses of_chain (numbered 13 1 0)
unfolding table_checked row_bad
first_at_n = refl

pub group_16 : table_checked 3 (0 ∷ 2 ∷ 16 ∷ []) ≡ refuses of_chain (numbered 13 0 0)
unfolding table_checked row_bad
group_16 = refl

-- the lowest of two bad rows, although state 0 stands in rows 0 and 1
pub lowest_row : table_checked 3 (0 ∷ 0 ∷ 1 ∷ 0 ∷ 0 ∷ 1 ∷ 1 ∷ 3 ∷ 1 ∷ 2 ∷ 2 ∷ 99 ∷ []) ≡ refuses of_chain (numbered 13 2 0)
unfolding table_checked row_bad
lowest_row = refl

-- ---- 12

-- the same row twice
pub same_row_twice : table_checked 3 (1 ∷ 2 ∷ 4 ∷ 0 ∷ 0 ∷ 4 ∷ 1 ∷ 2 ∷ 4 ∷ []) ≡ refuses of_chain (numbered 12 1 0)
unfolding table_checked row_bad holders sum count
same_row_twice = refl

-- the lowest of the states in two rows, although state 0 is in none
pub lowest_state : table_checked 5 (2 ∷ 4 ∷ 0 ∷ 3 ∷ 4 ∷ 1 ∷ []) ≡ refuses of_chain (numbered 12 3 0)
unfolding table_checked row_bad holders sum count
lowest_state = refl

-- ---- 11

pub empty_table : table_checked 3 [] ≡ refuses of_chain (numbered 11 0 0)
unfolding table_checked row_bad holders sum count
empty_table = refl

pub gap : table_checked 5 (0 ∷ 1 ∷ 9 ∷ 3 ∷ 3 ∷ 9 ∷ []) ≡ refuses of_chain (numbered 11 2 0)
unfolding table_checked row_bad holders sum count
gap = refl

-- ---- the order of the sums, for any shares: states rising, whatever the order of the rows; an empty group is Zero

pub rising : (f : ℕ → Scaled) → group_share (2 ∷ 2 ∷ 7 ∷ 0 ∷ 1 ∷ 7 ∷ []) 3 f 7 ≡ plus (plus (plus zero_number (f 0)) (f 1)) (f 2)
unfolding picked group_of
rising f = refl

pub empty_group : (f : ℕ → Scaled) → group_share (2 ∷ 2 ∷ 7 ∷ 0 ∷ 1 ∷ 7 ∷ []) 3 f 4 ≡ zero_number
unfolding picked group_of
empty_group f = refl
