-- What `place` leaves. No public promise needs this file.
use Rattle.std.specs.Prelude.{◌≢◌, ◌≡◌, ℕ}
use Rattle.scaled.specs.declared.Scaled.{Scaled}
use Rattle.kernel.specs.Slices.{Slices, number_at}
use Rattle.kernel.specs.Kernel.{Kept}

-- place `at` is now x, and every other place is as it was
pub record Placed (at : ℕ) (x : Scaled) (s s' : Slices) : Type 0 where
  pub kept : Kept s s'
  pub same : number_at s' at ≡ x
  pub other : (p : ℕ) → p ≢ at → number_at s' p ≡ number_at s p
