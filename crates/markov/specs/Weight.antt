-- The exact weight of a state: "the sum, over all ways to give each other state one move so that every state is led to i,
-- of the product of those moves' rates. For n = 1 it is 1." A way is a function f: state v moves to f v.
use Rattle.std.specs.Prelude.{Bool, cond, ◌&&◌, ◌||◌, ℕ, zero, suc, ◌*◌, eqb}
use Rattle.basics.specs.Sum.{sum, prod}
use Rattle.basics.specs.Below.{count, all, put}
use Rattle.markov.specs.Chain.{Rates}

-- the sum of F f over all n ^ m functions f from the numbers below m to the numbers below n
unfoldable pub over : ℕ → ℕ → ((ℕ → ℕ) → ℕ) → ℕ
over zero n F = F (λ v. 0)
over (suc m) n F = sum n (λ k. over m n (λ f. F (put f m k)))

-- whether f leads v to i in at most t moves
unfoldable pub led : ℕ → (ℕ → ℕ) → ℕ → ℕ → Bool
led zero f i v = eqb v i
led (suc t) f i v = eqb v i || led t f i (f v)

-- whether f leads every state to i
unfoldable pub leads : ℕ → (ℕ → ℕ) → ℕ → Bool
leads n f i = all n (λ v. led n f i v)

-- the product of the rates of the moves that f gives to the states other than i
unfoldable pub moves : ℕ → Rates → ℕ → (ℕ → ℕ) → ℕ
moves n rate i f = prod n (λ v. cond (eqb v i) 1 (rate v (f v)))

-- the exact weight of state i: i itself, which has no move, is put at i, so that each way counts once
unfoldable pub weight : ℕ → Rates → ℕ → ℕ
weight n rate i = over n n (λ f. count (eqb (f i) i && leads n f i) * moves n rate i f)
