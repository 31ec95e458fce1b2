-- What only the contracts of private functions cite.
use Rattle.std.specs.Prelude.{ℕ, Bool, ◌&&◌, ltb}
use Rattle.markov.specs.Chain.{Rates}
use Rattle.reach.specs.Reach.{via}

-- `via` for the states i below n alone
abbrev pub via_below : ℕ → Rates → ℕ → ℕ → ℕ → Bool
via_below n rate k i j = ltb i n && via rate k i j
