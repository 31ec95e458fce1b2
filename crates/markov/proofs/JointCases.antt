-- Two parts of orders 2 and 3 side by side, and case 2 with itself, by evaluation of the definitions. Its name puts it before Product, so
-- that a wrong definition is refused here. Assumes nothing.
use mathlib.Core.Bool.{Bool, true, false, ◌||◌}
use mathlib.Core.Path.{◌≡◌, refl}
use Prim.Native.Nat.{ℕ, ◌+◌, ◌*◌}
use lib.Dec.{eqb}
use Rattle.basics.specs.Sum.{sum, prod}
use Rattle.basics.specs.Below.{count, all, put}
use Rattle.markov.specs.Chain.{Rates}
use Rattle.markov.specs.Weight.{over, led, leads, moves, weight}
use Rattle.markov.specs.Product.{joint_rate, joint_set}
use Rattle.markov.proofs.Cases.{case2, only}

-- rates that tell the part and its two states
abbrev two : Rates
two i k = 10 * i + k + 1

abbrev three : Rates
three j m = 1000 * j + 100 * m + 100

-- from (0, 2) to (1, 2) and back, from (1, 1) to (0, 1)
pub first_moves : (joint_rate 3 two three 2 5 ≡ 2) × (joint_rate 3 two three 5 2 ≡ 11) × (joint_rate 3 two three 4 1 ≡ 11)
unfolding joint_rate count
first_moves = (refl, refl, refl)

-- from (0, 0) to (0, 1), from (1, 2) to (1, 1), from (0, 2) to (0, 0)
pub second_moves : (joint_rate 3 two three 0 1 ≡ 200) × (joint_rate 3 two three 5 4 ≡ 2200) × (joint_rate 3 two three 2 0 ≡ 2100)
unfolding joint_rate count
second_moves = (refl, refl, refl)

-- both move: from (0, 0) to (1, 1), from (1, 2) to (0, 0), from (0, 2) to (1, 0)
pub both_move : (joint_rate 3 two three 0 4 ≡ 0) × (joint_rate 3 two three 5 0 ≡ 0) × (joint_rate 3 two three 2 3 ≡ 0)
unfolding joint_rate count
both_move = (refl, refl, refl)

-- neither moves: at (0, 0) and at (1, 2)
pub neither_moves : (joint_rate 3 two three 0 0 ≡ 101) × (joint_rate 3 two three 5 5 ≡ 2312)
unfolding joint_rate count
neither_moves = (refl, refl)

abbrev pairs : ℕ → Bool
pairs = joint_set 3 (λ i. eqb i 1) (λ j. eqb j 0 || eqb j 2)

-- the first part's state 1 and the second's 0 and 2: the joint states 3 and 5
pub set_of_pairs : (pairs 0 ≡ false) × (pairs 1 ≡ false) × (pairs 2 ≡ false) × (pairs 3 ≡ true) × (pairs 4 ≡ false) × (pairs 5 ≡ true)
unfolding joint_set
set_of_pairs = (refl, refl, refl, refl, refl, refl)

-- weights 1, 3 and 1, 3: in proportion to their products 1, 3, 3, 9
pub twice_weights : (weight 4 (joint_rate 2 case2 case2) 0 ≡ 8) × (weight 4 (joint_rate 2 case2 case2) 1 ≡ 24)
    × (weight 4 (joint_rate 2 case2 case2) 2 ≡ 24) × (weight 4 (joint_rate 2 case2 case2) 3 ≡ 72)
unfolding weight over sum prod count put leads led all moves case2 only joint_rate
twice_weights = (refl, refl, refl, refl)
