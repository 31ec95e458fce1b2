-- The examples of the tables for refusals 1 to 4 and 14, and the edges of each rule, by evaluation of the definitions.
-- Assumes nothing.
use Prim.Native.Nat.{ℕ}
use mathlib.Core.List.{List, [], ◌∷◌}
use mathlib.Core.Path.{◌≡◌, refl}
use Rattle.refusal.specs.Table.{accepts, refuses, of_chain, numbered}
use Rattle.chain.specs.Rows.{rows}
use Rattle.chain.specs.Rules.{starts_sound, entry_bad, columns_checked, rules_checked, zeros_checked, checked}
use Rattle.chain.specs.Row.{row_part, row_rates}

-- ---- 1: "n = 65", and the other orders that are none, whatever the lists

module _ (starts columns rates : List ℕ) where
  pub order_65 : checked (rows 65 starts columns rates) ≡ refuses of_chain (numbered 1 0 0)
  unfolding checked rules_checked
  order_65 = refl

  pub order_0 : checked (rows 0 starts columns rates) ≡ refuses of_chain (numbered 1 0 0)
  unfolding checked rules_checked
  order_0 = refl

  pub order_largest : checked (rows 4294967295 starts columns rates) ≡ refuses of_chain (numbered 1 0 0)
  unfolding checked rules_checked
  order_largest = refl

  -- ---- 2: "one column, no rate", whatever the starts

  pub no_rate : checked (rows 2 starts (1 ∷ []) []) ≡ refuses of_chain (numbered 2 0 0)
  unfolding checked rules_checked
  no_rate = refl

-- ---- 3: "n = 2, starts 0, 1"

pub starts_short : checked (rows 2 (0 ∷ 1 ∷ []) (1 ∷ []) (3 ∷ [])) ≡ refuses of_chain (numbered 3 0 0)
unfolding checked rules_checked starts_sound
starts_short = refl

pub starts_long : checked (rows 2 (0 ∷ 1 ∷ 1 ∷ 1 ∷ []) (1 ∷ []) (3 ∷ [])) ≡ refuses of_chain (numbered 3 0 0)
unfolding checked rules_checked starts_sound
starts_long = refl

pub starts_from_1 : checked (rows 2 (1 ∷ 1 ∷ 1 ∷ []) (1 ∷ []) (3 ∷ [])) ≡ refuses of_chain (numbered 3 0 0)
unfolding checked rules_checked starts_sound
starts_from_1 = refl

pub starts_falling : checked (rows 2 (0 ∷ 2 ∷ 1 ∷ []) (1 ∷ []) (3 ∷ [])) ≡ refuses of_chain (numbered 3 0 0)
unfolding checked rules_checked starts_sound
starts_falling = refl

pub starts_end_early : checked (rows 2 (0 ∷ 1 ∷ 1 ∷ []) (1 ∷ 0 ∷ []) (3 ∷ 1 ∷ [])) ≡ refuses of_chain (numbered 3 0 0)
unfolding checked rules_checked starts_sound
starts_end_early = refl

-- ---- 4: "row 0, column 0"

pub own_column : checked (rows 2 (0 ∷ 1 ∷ 1 ∷ []) (0 ∷ []) (3 ∷ [])) ≡ refuses of_chain (numbered 4 0 0)
unfolding checked rules_checked starts_sound columns_checked entry_bad zeros_checked
own_column = refl

-- a column at n, the first of two bad entries
pub column_at_n : checked (rows 2 (0 ∷ 1 ∷ 2 ∷ []) (2 ∷ 1 ∷ []) (3 ∷ 1 ∷ [])) ≡ refuses of_chain (numbered 4 0 0)
unfolding checked rules_checked starts_sound columns_checked entry_bad zeros_checked
column_at_n = refl

-- equal columns and falling columns are charged to the later entry
pub columns_equal : checked (rows 3 (0 ∷ 1 ∷ 3 ∷ 3 ∷ []) (1 ∷ 0 ∷ 0 ∷ []) (1 ∷ 1 ∷ 1 ∷ [])) ≡ refuses of_chain (numbered 4 1 2)
unfolding checked rules_checked starts_sound columns_checked entry_bad zeros_checked
columns_equal = refl

pub columns_falling : checked (rows 3 (0 ∷ 2 ∷ 2 ∷ 2 ∷ []) (2 ∷ 1 ∷ []) (1 ∷ 1 ∷ [])) ≡ refuses of_chain (numbered 4 0 1)
unfolding checked rules_checked starts_sound columns_checked entry_bad zeros_checked
columns_falling = refl

-- the earlier rule counts: a chain that breaks all four
pub all_four : checked (rows 0 (1 ∷ []) (7 ∷ []) []) ≡ refuses of_chain (numbered 1 0 0)
unfolding checked rules_checked
all_four = refl

pub last_three : checked (rows 1 (1 ∷ []) (7 ∷ []) []) ≡ refuses of_chain (numbered 2 0 0)
unfolding checked rules_checked
last_three = refl

-- ---- 14: case 6, "n = 2, 0 to 1 rate 0, 1 to 0 rate 5", is "14, (0, 1)"

pub case_6 : checked (rows 2 (0 ∷ 1 ∷ 2 ∷ []) (1 ∷ 0 ∷ []) (0 ∷ 5 ∷ [])) ≡ refuses of_chain (numbered 14 0 1)
unfolding checked rules_checked starts_sound columns_checked entry_bad zeros_checked
case_6 = refl

-- by the rules until then it was taken
pub case_6_before : rules_checked (rows 2 (0 ∷ 1 ∷ 2 ∷ []) (1 ∷ 0 ∷ []) (0 ∷ 5 ∷ [])) ≡ accepts 2
unfolding rules_checked starts_sound columns_checked entry_bad zeros_checked
case_6_before = refl

-- the column is named, not the entry's place; rows without entries come before; the second zero rate is not named
pub zero_column : checked (rows 5 (0 ∷ 1 ∷ 1 ∷ 3 ∷ 5 ∷ 5 ∷ []) (4 ∷ 0 ∷ 3 ∷ 1 ∷ 2 ∷ []) (7 ∷ 256 ∷ 0 ∷ 0 ∷ 1 ∷ [])) ≡ refuses of_chain (numbered 14 2 3)
unfolding checked rules_checked starts_sound columns_checked entry_bad zeros_checked
zero_column = refl

pub zero_last : checked (rows 3 (0 ∷ 0 ∷ 1 ∷ 3 ∷ []) (2 ∷ 0 ∷ 1 ∷ []) (9 ∷ 4 ∷ 0 ∷ [])) ≡ refuses of_chain (numbered 14 2 1)
unfolding checked rules_checked starts_sound columns_checked entry_bad zeros_checked
zero_last = refl

-- "tried straight after 4": a bad column in a later row comes first
pub column_before_zero : checked (rows 3 (0 ∷ 1 ∷ 1 ∷ 2 ∷ []) (1 ∷ 2 ∷ []) (0 ∷ 5 ∷ [])) ≡ refuses of_chain (numbered 4 2 1)
unfolding checked rules_checked starts_sound columns_checked entry_bad zeros_checked
column_before_zero = refl

-- ---- the look-up

-- of case 2, and the empty part for a row of n or more
pub row_1 : row_rates (rows 2 (0 ∷ 1 ∷ 2 ∷ []) (1 ∷ 0 ∷ []) (3 ∷ 1 ∷ [])) 1 ≡ 1 ∷ []
unfolding row_part checked rules_checked starts_sound columns_checked entry_bad zeros_checked
row_1 = refl

pub row_2 : row_rates (rows 2 (0 ∷ 1 ∷ 2 ∷ []) (1 ∷ 0 ∷ []) (3 ∷ 1 ∷ [])) 2 ≡ []
unfolding row_part checked rules_checked starts_sound columns_checked entry_bad zeros_checked
row_2 = refl

-- and for a chain with a zero rate, in another row too
pub row_of_zeros : row_rates (rows 2 (0 ∷ 1 ∷ 2 ∷ []) (1 ∷ 0 ∷ []) (0 ∷ 5 ∷ [])) 1 ≡ []
unfolding row_part checked rules_checked starts_sound columns_checked entry_bad zeros_checked
row_of_zeros = refl
