-- The slices that a caller lends to `solve`: two work slices, two for the weights and two for the shares.
use Rattle.std.specs.Prelude.{Bool, ◌&&◌, List, ℕ, ◌*◌, ◌≤◌, leb, ℤ, length}
use Rattle.kernel.specs.Slices.{Slices, pair}

pub record Lent : Type 0 where
  pub work : Slices
  pub weights : Slices
  pub shares : Slices

-- what six lent slices hold
abbrev pub lent : List ℕ → List ℤ → List ℕ → List ℤ → List ℕ → List ℤ → Lent
lent m e wm we sm se = record { work = pair m e; weights = pair wm we; shares = pair sm se }

-- ---- "It needs n × n places in each of two work slices (m and e) and n in each of four result slices"

-- two slices of these lengths have k places each
abbrev pub both_have : ℕ → ℕ → ℕ → Bool
both_have k m e = leb k m && leb k e

unfoldable pub enough : ℕ → ℕ → ℕ → ℕ → ℕ → ℕ → ℕ → Bool
enough n m e wm we sm se = both_have (n * n) m e && both_have n wm we && both_have n sm se

abbrev pub enough_in : ℕ → Lent → Bool
enough_in n l =
    enough n (length l.work.m) (length l.work.e) (length l.weights.m) (length l.weights.e) (length l.shares.m) (length l.shares.e)

-- the same as plain facts
pub record Places (k : ℕ) (s : Slices) : Type 0 where
  pub for_m : k ≤ length s.m
  pub for_e : k ≤ length s.e

pub record Roomy (n : ℕ) (l : Lent) : Type 0 where
  pub for_work : Places (n * n) l.work
  pub for_weights : Places n l.weights
  pub for_shares : Places n l.shares
