-- The sizes that count: how many states, how large a rate, and the bounds on the numbers met that follow from these two.
-- A bound is a plain number; where it is used, it counts in units of 1.
use Rattle.std.specs.Prelude.{ℕ, ◌*◌, ◌^◌}

-- document 01: at most 64 states, rates of 32 bits
unfoldable pub most_states : ℕ
most_states = 64

unfoldable pub most_rate : ℕ
most_rate = 2 ^ 32

-- every number met is 0, or at least 2^-13300 and at most 2^13300
unfoldable pub margin : ℕ
margin = 13300

-- ---- the bounds for at most n states whose rates are at most top

-- an entry at most doubles at a step
unfoldable pub entry_bound : ℕ → ℕ → ℕ
entry_bound n top = top * 2 ^ n

-- a rounded sum of at most n entries
unfoldable pub pivot_bound : ℕ → ℕ → ℕ
pivot_bound n top = 2 * (n * entry_bound n top)

-- a weight is at most this; a weight and a positive entry are at least one over this
unfoldable pub weight_bound : ℕ → ℕ → ℕ
weight_bound n top = pivot_bound n top ^ n

-- whatever is met
unfoldable pub room_bound : ℕ → ℕ → ℕ
room_bound n top = 8 * (weight_bound n top * weight_bound n top * pivot_bound n top)
