-- Document 02, R-6: "Build the joint chain from chains of orders a and b: joint state i × b + j, moves of one part at a time with that
-- part's rates."
use Rattle.std.specs.Prelude.{Bool, ◌&&◌, ℕ, ◌+◌, ◌*◌, ◌/◌, ◌%◌, eqb}
use Rattle.basics.specs.Below.{count}
use Rattle.markov.specs.Chain.{Rates}

-- the rate between two joint states, where b is the second part's order: the first part's rate from x / b to y / b where the second part
-- stands still, and the second's from x % b to y % b where the first does
unfoldable pub joint_rate : ℕ → Rates → Rates → Rates
joint_rate b f g x y =
    count (eqb (x % b) (y % b)) * f (x / b) (y / b)
    + count (eqb (x / b) (y / b)) * g (x % b) (y % b)

-- the joint states whose first part is in one set and whose second part is in the other
unfoldable pub joint_set : ℕ → (ℕ → Bool) → (ℕ → Bool) → ℕ → Bool
joint_set b S T x = S (x / b) && T (x % b)
