-- The set of the states 1, 2 and 4 of five, taken alone, by evaluation of the definitions. Its name puts it early, and Cases with it, from
-- which it imports, so that a wrong definition is refused in these two. Assumes nothing.
use mathlib.Core.Bool.{Bool, ◌||◌}
use mathlib.Core.List.{List, [], ◌∷◌}
use mathlib.Core.Path.{◌≡◌, refl}
use Prim.Native.Nat.{ℕ, ◌+◌, ◌*◌}
use lib.Dec.{eqb}
use Rattle.basics.specs.Sum.{sum, prod}
use Rattle.basics.specs.Below.{count, all, put}
use Rattle.markov.specs.Chain.{Rates}
use Rattle.markov.specs.Weight.{over, led, leads, moves, weight}
use Rattle.markov.specs.Elimination.{total, pivot_of, quotient_at, next, weights, shares}
use Rattle.markov.specs.Closed.{size, member, last, alone, spread, set_weight, set_weights, set_shares}
use Rattle.markov.proofs.ExactNumbers.{number, fraction, exact}
use Rattle.markov.proofs.Cases.{only, matrix}

abbrev three : ℕ → Bool
three i = eqb i 1 || eqb i 2 || eqb i 4

-- a rate that tells its two states
abbrev told : Rates
told i j = 10 * i + j

-- how many, the places of 1, 2 and 4, the states at these places, the last
pub set_of_three : (size 5 three ≡ 3) × (size 1 three ≡ 0) × (size 2 three ≡ 1) × (size 4 three ≡ 2)
    × (member 5 three 0 ≡ 1) × (member 5 three 1 ≡ 2) × (member 5 three 2 ≡ 4) × (last 5 three ≡ 4)
unfolding size member last sum count
set_of_three = (refl, refl, refl, refl, refl, refl, refl, refl)

-- case 3 on these states: the ring 1 to 2 rate 2, 2 to 4 rate 4, 4 to 1 rate 8; 3 leads to 0 and 0 to 1, and both are left for good
abbrev ring : Rates
ring u v = only 1 2 2 u v + only 2 4 4 u v + only 4 1 8 u v + only 0 1 5 u v + only 3 0 9 u v

abbrev five : {X : Type 0} → (ℕ → X) → List X
five f = f 0 ∷ f 1 ∷ f 2 ∷ f 3 ∷ f 4 ∷ []

-- the rates from the first to the second and from the third to the first; 7, 8 and 9 given to the states; the exact weights of case 3, and
-- its weights 4, 2, 1 and shares 4/7, 2/7, 1/7 in units of 1 / 7, given to the states, with 0 at the states outside
pub three_alone : (alone 5 three told 0 1 ≡ 12) × (alone 5 three told 2 0 ≡ 41)
    × (five (spread three 0 (λ p. p + 7)) ≡ 0 ∷ 7 ∷ 8 ∷ 0 ∷ 9 ∷ [])
    × (five (set_weight 5 ring three) ≡ 0 ∷ 32 ∷ 16 ∷ 0 ∷ 8 ∷ [])
    × (five (set_weights (exact 7) 5 three (matrix 7 ring)) ≡ number 0 ∷ number 28 ∷ number 14 ∷ number 0 ∷ number 7 ∷ [])
    × (five (set_shares (exact 7) 5 three (matrix 7 ring)) ≡ number 0 ∷ number 4 ∷ number 2 ∷ number 0 ∷ number 1 ∷ [])
unfolding alone spread size member sum count
    set_weight weight over prod put leads led all moves only
    set_weights set_shares weights shares total pivot_of quotient_at next exact fraction matrix
three_alone = (refl, refl, refl, refl, refl, refl)
