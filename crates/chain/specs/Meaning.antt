-- The chain that the three lists describe, as rates between states.
use Rattle.std.specs.Prelude.{ℕ, ◌+◌, ◌-◌, cond, List, eqb, get_or}
use Rattle.basics.specs.Sum.{sum}
use Rattle.markov.specs.Chain.{Rates}
use Rattle.chain.specs.Rows.{Rows, begins, ends}

-- what the entry at a place adds to the rate of a move to j: its own rate if its column is j
abbrev pub adds : List ℕ → List ℕ → ℕ → ℕ → ℕ
adds columns rates j place = cond (eqb (get_or columns place 0) j) (get_or rates place 0) 0

-- the rate from i to j. Where row i has no entry at column j it is 0. A chain that keeps the rules has at most one such entry. An entry
-- of rate 0, as chains had until request R-5, adds nothing: it meant no move.
unfoldable pub rate_in : Rows → Rates
rate_in c i j = sum (ends c i - begins c i) (λ q. adds c.columns c.rates j (begins c i + q))
