-- Chains in rows of some rate functions, by evaluation of the definitions. Assumes nothing.
use Prim.Native.Nat.{ℕ}
use mathlib.Core.List.{List, [], ◌∷◌}
use mathlib.Core.Path.{◌≡◌, refl}
use lib.ListN.{get_or}
use Rattle.basics.specs.Lists.{table}
use Rattle.markov.specs.Chain.{Rates}
use Rattle.chain.specs.Rows.{rows}
use Rattle.from_rates.specs.FromRates.{together, start_of, from_rates}

-- the rates in a table, row x the rates from x; 0 where it has none
abbrev given : List (List ℕ) → Rates
given t x y = get_or (get_or t x []) y 0

-- one state
pub one_state : from_rates 1 (given []) ≡ rows 1 (0 ∷ 0 ∷ []) [] []
unfolding from_rates together table
one_state = refl

-- the two states of document 01's case 2
pub case_2 : from_rates 2 (given ((0 ∷ 3 ∷ []) ∷ (1 ∷ []) ∷ [])) ≡ rows 2 (0 ∷ 1 ∷ 2 ∷ []) (1 ∷ 0 ∷ []) (3 ∷ 1 ∷ [])
unfolding from_rates together table
case_2 = refl

-- a full row, an empty row, a row with one entry
pub unequal_rows : from_rates 3 (given ((0 ∷ 5 ∷ 7 ∷ []) ∷ [] ∷ (0 ∷ 2 ∷ []) ∷ [])) ≡ rows 3 (0 ∷ 2 ∷ 2 ∷ 3 ∷ []) (1 ∷ 2 ∷ 1 ∷ []) (5 ∷ 7 ∷ 2 ∷ [])
unfolding from_rates together table
unequal_rows = refl

-- an empty row first, a row without its middle, the largest rate of a chain, a full row
abbrev four : Rates
four = given ([] ∷ (1 ∷ 0 ∷ 0 ∷ 6 ∷ []) ∷ (0 ∷ 4294967295 ∷ []) ∷ (8 ∷ 4294967295 ∷ 1 ∷ []) ∷ [])

pub four_states : from_rates 4 four ≡ rows 4 (0 ∷ 0 ∷ 2 ∷ 3 ∷ 6 ∷ []) (0 ∷ 3 ∷ 1 ∷ 0 ∷ 1 ∷ 2 ∷ []) (1 ∷ 6 ∷ 4294967295 ∷ 8 ∷ 4294967295 ∷ 1 ∷ [])
unfolding from_rates together table
four_states = refl

-- its row 3 starts after the three entries of the rows before it
pub start_of_3 : start_of 4 four 3 ≡ 3
unfolding together
start_of_3 = refl

-- rates of states that are not below n are not taken: of the four states the first two
pub beyond : from_rates 2 four ≡ rows 2 (0 ∷ 0 ∷ 1 ∷ []) (0 ∷ []) (1 ∷ [])
unfolding from_rates together table
beyond = refl
