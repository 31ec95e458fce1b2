-- Chains without their entries of rate 0, by evaluation of the definitions. Assumes nothing.
use mathlib.Core.List.{[], ◌∷◌}
use mathlib.Core.Path.{◌≡◌, refl}
use Rattle.chain.specs.Rows.{rows}
use Rattle.cleaned.specs.Cleaned.{cleaned}

-- document 01's case 6: "n = 2, 0 to 1 rate 0, 1 to 0 rate 5"
pub case_6 : cleaned (rows 2 (0 ∷ 1 ∷ 2 ∷ []) (1 ∷ 0 ∷ []) (0 ∷ 5 ∷ [])) ≡ rows 2 (0 ∷ 0 ∷ 1 ∷ []) (0 ∷ []) (5 ∷ [])
unfolding cleaned
case_6 = refl

-- case 2 has no such entry
pub case_2 : cleaned (rows 2 (0 ∷ 1 ∷ 2 ∷ []) (1 ∷ 0 ∷ []) (3 ∷ 1 ∷ [])) ≡ rows 2 (0 ∷ 1 ∷ 2 ∷ []) (1 ∷ 0 ∷ []) (3 ∷ 1 ∷ [])
unfolding cleaned
case_2 = refl

-- a row with its first rate 0, an empty row, a row with its last rate 0
pub first_and_last : cleaned (rows 3 (0 ∷ 2 ∷ 2 ∷ 4 ∷ []) (1 ∷ 2 ∷ 0 ∷ 1 ∷ []) (0 ∷ 5 ∷ 1 ∷ 0 ∷ []))
    ≡ rows 3 (0 ∷ 1 ∷ 1 ∷ 2 ∷ []) (2 ∷ 0 ∷ []) (5 ∷ 1 ∷ [])
unfolding cleaned
first_and_last = refl

-- a row with its middle rate 0, one with all but the middle, an empty one, one of zeros alone
pub unequal_rows : cleaned (rows 4 (0 ∷ 3 ∷ 6 ∷ 6 ∷ 8 ∷ []) (1 ∷ 2 ∷ 3 ∷ 0 ∷ 2 ∷ 3 ∷ 0 ∷ 1 ∷ []) (3 ∷ 0 ∷ 4294967295 ∷ 0 ∷ 1 ∷ 0 ∷ 0 ∷ 0 ∷ []))
    ≡ rows 4 (0 ∷ 2 ∷ 3 ∷ 3 ∷ 3 ∷ []) (1 ∷ 3 ∷ 2 ∷ []) (3 ∷ 4294967295 ∷ 1 ∷ [])
unfolding cleaned
unequal_rows = refl

-- nothing stays
pub zeros_alone : cleaned (rows 2 (0 ∷ 1 ∷ 2 ∷ []) (1 ∷ 0 ∷ []) (0 ∷ 0 ∷ [])) ≡ rows 2 (0 ∷ 0 ∷ 0 ∷ []) [] []
unfolding cleaned
zeros_alone = refl
