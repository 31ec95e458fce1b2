-- Document 02, R-1: the rules of a table as plain facts, and what each verdict of 13, 12 and 11 says of a table.
use Rattle.std.specs.Prelude.{ℕ, ◌+◌, ◌*◌, ◌<◌, ◌≤◌, List, ◌≡◌, length}
use Rattle.refusal.specs.Table.{Verdict, accepts, refuses, of_chain, numbered}
use Rattle.group_table.specs.Rules.{row_count, first_state, last_state, group_number}

-- a row of three numbers, its states below n in order, its group 0 to 15
pub record SoundRow (n : ℕ) (table : List ℕ) (row : ℕ) : Type 0 where
  pub whole : 3 * row + 3 ≤ length table
  pub ordered : first_state table row ≤ last_state table row
  pub first_below : first_state table row < n
  pub last_below : last_state table row < n
  pub group : group_number table row ≤ 15

pub record SoundRows (n : ℕ) (table : List ℕ) : Type 0 where
  pub row : (r : ℕ) → r < row_count table → SoundRow n table r

-- why a row is bad
pub data Fault (n : ℕ) (table : List ℕ) (row : ℕ) : Type 0 where
  cut_short : length table < 3 * row + 3 → Fault n table row
  first_above_last : last_state table row < first_state table row → Fault n table row
  first_too_high : n ≤ first_state table row → Fault n table row
  last_too_high : n ≤ last_state table row → Fault n table row
  group_too_high : 15 < group_number table row → Fault n table row

-- the lowest bad row
pub record FirstBad (n : ℕ) (table : List ℕ) (row : ℕ) : Type 0 where
  pub below : row < row_count table
  pub fault : Fault n table row
  pub before : (r : ℕ) → r < row → SoundRow n table r

-- ---- states and rows

-- the row holds the state
pub record Held (table : List ℕ) (state row : ℕ) : Type 0 where
  pub from : first_state table row ≤ state
  pub to : state ≤ last_state table row

pub record InTwoRows (table : List ℕ) (state : ℕ) : Type 0 where
  pub one : ℕ
  pub other : ℕ
  pub rising : one < other
  pub below : other < row_count table
  pub by_one : Held table state one
  pub by_other : Held table state other

pub record InNoRow (table : List ℕ) (state : ℕ) : Type 0 where
  pub none : (row : ℕ) → row < row_count table → Held table state row → ⊥

pub record InOneRow (table : List ℕ) (state : ℕ) : Type 0 where
  pub row : ℕ
  pub below : row < row_count table
  pub held : Held table state row
  pub only : (other : ℕ) → other < row_count table → Held table state other → other ≡ row

-- no state is in two rows
pub record NoneInTwo (n : ℕ) (table : List ℕ) : Type 0 where
  pub never : (state : ℕ) → state < n → InTwoRows table state → ⊥

-- the lowest state in two rows
pub record FirstInTwo (n : ℕ) (table : List ℕ) (state : ℕ) : Type 0 where
  pub below : state < n
  pub twice : InTwoRows table state
  pub before : (s : ℕ) → s < state → InTwoRows table s → ⊥

-- the lowest state in no row
pub record FirstInNone (n : ℕ) (table : List ℕ) (state : ℕ) : Type 0 where
  pub below : state < n
  pub missing : InNoRow table state
  pub before : (s : ℕ) → s < state → InOneRow table s

-- every row is whole and in bounds, and every state in exactly one
pub record SoundTable (n : ℕ) (table : List ℕ) : Type 0 where
  pub rows : SoundRows n table
  pub states : (state : ℕ) → state < n → InOneRow table state

-- what each verdict says: the rules before hold and this one is broken, or all hold
pub data TableSays (n : ℕ) (table : List ℕ) : Verdict ℕ → Type 0 where
  bad_row : {row : ℕ} → FirstBad n table row → TableSays n table (refuses of_chain (numbered 13 row 0))
  state_in_two_rows : {state : ℕ} → SoundRows n table → FirstInTwo n table state → TableSays n table (refuses of_chain (numbered 12 state 0))
  state_in_no_row : {state : ℕ} → SoundRows n table → NoneInTwo n table → FirstInNone n table state
      → TableSays n table (refuses of_chain (numbered 11 state 0))
  fits : SoundTable n table → TableSays n table (accepts (row_count table))
