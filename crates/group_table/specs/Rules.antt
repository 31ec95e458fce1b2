-- Document 02, R-1: "A customer's table, lent as one slice of 32-bit numbers, has three a row: first state, last state, group 0 to 15."
-- Rows and states count from 0.
use Rattle.std.specs.Prelude.{ℕ, ◌+◌, ◌*◌, ◌/◌, Bool, cond, ◌&&◌, ◌||◌, List, ltb, leb, eqb, length, get_or}
use Rattle.basics.specs.Sum.{sum}
use Rattle.basics.specs.Below.{count}
use Rattle.basics.specs.First.{first}
use Rattle.refusal.specs.Table.{Verdict, accepts, refuses, of_chain, numbered}

-- how many rows there are: a last row that is cut short counts
abbrev pub row_count : List ℕ → ℕ
row_count table = (length table + 2) / 3

abbrev pub first_state : List ℕ → ℕ → ℕ
first_state table row = get_or table (3 * row) 0

abbrev pub last_state : List ℕ → ℕ → ℕ
last_state table row = get_or table (3 * row + 1) 0

abbrev pub group_number : List ℕ → ℕ → ℕ
group_number table row = get_or table (3 * row + 2) 0

-- ---- 13

-- "a row cut short or with first above last, a state of n or more or a group above 15"
unfoldable pub row_bad : ℕ → List ℕ → ℕ → Bool
row_bad n table row =
    ltb (length table) (3 * row + 3)
    || ltb (last_state table row) (first_state table row)
    || leb n (first_state table row)
    || leb n (last_state table row)
    || ltb 15 (group_number table row)

-- "the lowest such row", or the number of rows
abbrev pub first_bad_row : ℕ → List ℕ → ℕ
first_bad_row n table = first (row_bad n table) 0 (row_count table)

-- ---- 12 and 11

-- a row holds the states from its first to its last
abbrev pub holds : List ℕ → ℕ → ℕ → Bool
holds table state row = leb (first_state table row) state && leb state (last_state table row)

-- how many of the rows below k hold a state
unfoldable pub holders : List ℕ → ℕ → ℕ → ℕ
holders table k state = sum k (λ row. count (holds table state row))

-- "a state in two rows", or in more
abbrev pub in_two_rows : List ℕ → ℕ → Bool
in_two_rows table state = leb 2 (holders table (row_count table) state)

-- "a state in none"
abbrev pub in_no_row : List ℕ → ℕ → Bool
in_no_row table state = eqb (holders table (row_count table) state) 0

-- "the lowest such state", or n
abbrev pub first_in_two : ℕ → List ℕ → ℕ
first_in_two n table = first (in_two_rows table) 0 n

abbrev pub first_in_none : ℕ → List ℕ → ℕ
first_in_none n table = first (in_no_row table) 0 n

-- ---- the table's check: 13, then 12, then 11, or the number of rows

unfoldable pub table_checked : ℕ → List ℕ → Verdict ℕ
table_checked n table =
    cond (ltb (first_bad_row n table) (row_count table))
    (refuses of_chain (numbered 13 (first_bad_row n table) 0))
    (cond (ltb (first_in_two n table) n)
    (refuses of_chain (numbered 12 (first_in_two n table) 0))
    (cond (ltb (first_in_none n table) n)
    (refuses of_chain (numbered 11 (first_in_none n table) 0))
    (accepts (row_count table))))

-- ---- the group of a state: that of the row that holds it (in an accepted table there is exactly one)

unfoldable pub group_of : List ℕ → ℕ → ℕ
group_of table state = group_number table (first (holds table state) 0 (row_count table))
