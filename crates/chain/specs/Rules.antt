-- Document 01, "A chain in rows", with request R-5: the rules of a chain, and the refusals 1 to 4 and 14 of one that breaks them.
use Rattle.std.specs.Prelude.{ℕ, ◌+◌, ◌-◌, Bool, cond, ◌&&◌, ◌||◌, List, length, get_or, ltb, leb, eqb}
use Rattle.basics.specs.First.{first}
use Rattle.refusal.specs.Table.{Verdict, accepts, refuses, of_chain, numbered, and_then}
use Rattle.chain.specs.Rows.{Rows, begins, ends, column_at}

-- 1: "n (1 to 64 states)"
abbrev pub order_sound : ℕ → Bool
order_sound n = ltb 0 n && leb n 64

-- start i + 1 is below the one before
abbrev pub falls_at : List ℕ → ℕ → Bool
falls_at starts i = ltb (get_or starts (i + 1) 0) (get_or starts i 0)

-- 3: "there are n + 1 starts; the first is 0, none is below the one before, the last equals the number of columns"
unfoldable pub starts_sound : ℕ → List ℕ → ℕ → Bool
starts_sound n starts columns =
    eqb (length starts) (n + 1) && eqb (get_or starts 0 0) 0 && eqb (first (falls_at starts) 0 n) n && eqb (get_or starts n 0) columns

-- 4: "within a row columns rise strictly, are below n and never equal the row": whether the entry at a place of the row breaks
-- this, where the row's entries begin at place `begin`
unfoldable pub entry_bad : ℕ → List ℕ → ℕ → ℕ → ℕ → Bool
entry_bad n columns row begin place =
    leb n (get_or columns place 0) || eqb (get_or columns place 0) row || (ltb begin place && leb (get_or columns place 0) (get_or columns (place - 1) 0))

abbrev pub bad_at : Rows → ℕ → ℕ → Bool
bad_at c row place = entry_bad c.order c.columns row (begins c row) place

-- the place of the first bad entry of a row, or the row's end
abbrev pub first_bad : Rows → ℕ → ℕ
first_bad c row = first (bad_at c row) (begins c row) (ends c row)

abbrev pub row_bad : Rows → ℕ → Bool
row_bad c row = ltb (first_bad c row) (ends c row)

-- the first row with a bad entry, or n
abbrev pub first_bad_row : Rows → ℕ
first_bad_row c = first (row_bad c) 0 c.order

-- 4, with the row and the entry place of the first bad entry
unfoldable pub columns_checked : Rows → Verdict ℕ
columns_checked c =
    cond (ltb (first_bad_row c) c.order)
    (refuses of_chain (numbered 4 (first_bad_row c) (first_bad c (first_bad_row c))))
    (accepts (length c.columns))

-- 14: "A zero rate is 14, tried straight after 4 in a chain .., with the first such entry's row and column as places"

abbrev pub zero_at : List ℕ → ℕ → Bool
zero_at rates place = eqb (get_or rates place 0) 0

-- the place of the first entry of rate 0, or the number of entries
abbrev pub first_zero : List ℕ → ℕ
first_zero rates = first (zero_at rates) 0 (length rates)

-- the row in which the entry at a place stands: the first that ends after it
abbrev pub ends_after : List ℕ → ℕ → ℕ → Bool
ends_after starts place row = ltb place (get_or starts (row + 1) 0)

abbrev pub row_of : ℕ → List ℕ → ℕ → ℕ
row_of n starts place = first (ends_after starts place) 0 n

unfoldable pub zeros_checked : Rows → Verdict ℕ
zeros_checked c =
    let place = first_zero c.rates in
    cond (ltb place (length c.rates))
    (refuses of_chain (numbered 14 (row_of c.order c.starts place) (column_at c place)))
    (accepts (length c.columns))

-- the first of 1 to 4 that is broken, or the number of entries: all that was asked of a chain until request R-5
unfoldable pub rules_checked : Rows → Verdict ℕ
rules_checked c =
    cond (order_sound c.order)
    (cond (eqb (length c.columns) (length c.rates))
    (cond (starts_sound c.order c.starts (length c.columns))
    (columns_checked c)
    (refuses of_chain (numbered 3 0 0)))
    (refuses of_chain (numbered 2 0 0)))
    (refuses of_chain (numbered 1 0 0))

-- the first of 1, 2, 3, 4, 14 that applies, or the number of entries
unfoldable pub checked : Rows → Verdict ℕ
checked c = and_then (rules_checked c) (λ _. zeros_checked c)
