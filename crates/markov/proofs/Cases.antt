-- The elimination of document 01's cases 2 and 3 in exact arithmetic, and the order of its operations in numbers of any kind, by evaluation
-- of the definitions. Assumes nothing.
use mathlib.Core.Path.{◌≡◌, refl}
use mathlib.Core.Bool.{cond, ◌&&◌}
use Prim.Native.Nat.{ℕ, ◌+◌, ◌*◌}
use native.Mathlib.Omega.{arith}
use lib.Dec.{eqb}
use Rattle.basics.specs.Sum.{sum, prod}
use Rattle.markov.specs.Chain.{Rates, Balances}
use Rattle.basics.specs.Below.{count, all, put}
use Rattle.markov.specs.Weight.{over, led, leads, moves, weight}
use Rattle.markov.specs.Elimination.{Ops, total, pivot_of, quotient_at, next, weights, shares}
use Rattle.markov.proofs.StepCounts.{mark, positives, step_count, elimination_count}
use Rattle.markov.proofs.ExactNumbers.{Num, number, units, fraction, exact}

-- ---- the chains

-- one move, from i to j at rate x
unfoldable pub only : ℕ → ℕ → ℕ → Rates
only i j x u v = cond (eqb u i && eqb v j) x 0

-- case 2: 0 to 1 rate 3, 1 to 0 rate 1
unfoldable pub case2 : Rates
case2 u v = only 0 1 3 u v + only 1 0 1 u v

-- case 3: ring 0 to 1 rate 2, 1 to 2 rate 4, 2 to 0 rate 8
unfoldable pub case3 : Rates
case3 u v = only 0 1 2 u v + only 1 2 4 u v + only 2 0 8 u v

pub weights_2 : (weight 2 case2 0 ≡ 1) × (weight 2 case2 1 ≡ 3)
unfolding weight over sum prod count put leads led all moves case2 only
weights_2 = (refl, refl)

-- ---- the elimination in exact arithmetic

-- the matrix of a chain, in units of 1 / one
unfoldable pub matrix : ℕ → Rates → ℕ → ℕ → Num
matrix one rate i j = number (rate i j * one)

-- case 2 in units of 1 / 12: weights 1/3 and 1, shares 1/4 and 3/4, and its own bound count 2
pub computed_2 : (weights (exact 12) 1 (matrix 12 case2) 0 ≡ number 4) × (weights (exact 12) 1 (matrix 12 case2) 1 ≡ number 12)
    × (shares (exact 12) 1 (matrix 12 case2) 0 ≡ number 3) × (shares (exact 12) 1 (matrix 12 case2) 1 ≡ number 9)
    × (elimination_count (exact 12) units 1 (matrix 12 case2) ≡ 2)
unfolding weights shares total pivot_of quotient_at next exact fraction matrix case2 only elimination_count step_count positives mark sum
computed_2 = (refl, refl, refl, refl, refl)

-- case 3 in units of 1 / 7: weights 4, 2, 1, shares 4/7, 2/7, 1/7, and its own bound count 10
pub computed_3 : (weights (exact 7) 2 (matrix 7 case3) 0 ≡ number 28) × (weights (exact 7) 2 (matrix 7 case3) 1 ≡ number 14) × (weights (exact 7) 2 (matrix 7 case3) 2 ≡ number 7)
    × (shares (exact 7) 2 (matrix 7 case3) 0 ≡ number 4) × (shares (exact 7) 2 (matrix 7 case3) 1 ≡ number 2) × (shares (exact 7) 2 (matrix 7 case3) 2 ≡ number 1)
    × (elimination_count (exact 7) units 2 (matrix 7 case3) ≡ 10)
unfolding weights shares total pivot_of quotient_at next exact fraction matrix case3 only elimination_count step_count positives mark sum
computed_3 = (refl, refl, refl, refl, refl, refl, refl)

-- ---- the order of the operations, over numbers of any kind: the bits of the cases above do not tell it

module _ {X : Type 0} (O : Ops X) (a : ℕ → ℕ → X) where
  -- "the sum of the entries (k, j), j rising from k + 1", from Zero
  pub pivot_rising : pivot_of O 3 a ≡ O.add (O.add (O.add O.nought (a 0 1)) (a 0 2)) (a 0 3)
  unfolding pivot_of total
  pivot_rising = refl

  -- "itself plus the product of entry (i, k) and t(j)", where t(j) is "entry (k, j) divided by s"
  pub product_of_quotient : next O 3 a 0 1 ≡ O.add (a 1 2) (O.mul (a 1 0) (O.div (a 0 2) (pivot_of O 3 a)))
  unfolding next quotient_at
  product_of_quotient = refl

  -- "the sum, j rising from k + 1, of weight j times entry (j, k) .., divided once by that step's s"
  pub back_rising : weights O 2 a 0
      ≡ O.div (O.add (O.add O.nought (O.mul (weights O 1 (next O 2 a) 0) (a 1 0))) (O.mul (weights O 1 (next O 2 a) 1) (a 2 0))) (pivot_of O 2 a)
  unfolding weights total
  back_rising = refl

  -- "weight k divided by the sum of all weights taken from state 0 up"
  pub share_rising : shares O 2 a 1 ≡ O.div (weights O 2 a 1) (O.add (O.add (O.add O.nought (weights O 2 a 0)) (weights O 2 a 1)) (weights O 2 a 2))
  unfolding shares total
  share_rising = refl

-- ---- "a list of whole numbers, not all 0"

-- so 0 everywhere balances no chain
pub zeros_balance_nothing : (n : ℕ) (rate : Rates) → Balances n rate (λ i. 0) → ⊥
zeros_balance_nothing n rate b = omega (arith, b.not_zero)
