-- Document 01, "A chain in rows": "a row look-up hands back the caller's own rates of that row. For an input refused by 1 to 4,
-- or a row number of n or more, it hands back the empty part." Request R-5: also for a chain with a zero rate.
use Rattle.std.specs.Prelude.{ℕ, ◌+◌, ◌-◌, ◌*◌, cond, List, ltb, take, drop}
use Rattle.std.specs.Borrow.{Bor}
use Rattle.refusal.specs.Table.{Verdict, accepts, refuses}
use Rattle.chain.specs.Rows.{Rows, begins, ends}
use Rattle.chain.specs.Rules.{checked}

-- a part of a list: the place of its first number, and how many it has
abbrev pub Part : Type 0
Part = ℕ × ℕ

abbrev pub empty : Part
empty = (0, 0)

-- a part of an accepted chain, or the empty part
abbrev pub if_accepted : Verdict ℕ → Part → Part
if_accepted (accepts k) part = part
if_accepted (refuses side line) part = empty

-- the part of the rates that the look-up of a row hands back
unfoldable pub row_part : Rows → ℕ → Part
row_part c row = if_accepted (checked c) (cond (ltb row c.order) (begins c row, ends c row - begins c row) empty)

-- the rates that it holds
abbrev pub row_rates : Rows → ℕ → List ℕ
row_rates c row = take (row_part c row).1 (drop (row_part c row).0 c.rates)

-- "the caller's own": where the number at a place of a lent slice of `u32` stands in memory, four bytes for each
abbrev pub stands_at : Bor (List ℕ) → ℕ → ℕ × ℕ
stands_at slice place = (slice.ref_ptr.0, place * 4 + slice.ref_ptr.1)
