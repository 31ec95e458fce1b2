-- What one turn of `spread` leaves. No public promise needs this file.
use Rattle.std.specs.Prelude.{Bool, ◌≡◌, ℕ}
use Rattle.scaled.specs.Scaled.{zero_number}
use Rattle.markov.specs.Closed.{size, spread}
use Rattle.kernel.specs.Slices.{Slices, number_at}
use Rattle.kernel.specs.Inner.{Placed}

-- state i has the number that stood at its place, or Zero if it is outside the set; p is how many states of the set are below it
pub record Given (set : ℕ → Bool) (i p : ℕ) (s s' : Slices) : Type 0 where
  pub below : p ≡ size i set
  pub put : Placed i (spread set zero_number (number_at s) i) s s'
