-- The lines that are put from the result slices are those of the computed weights and shares. Assumes nothing.
use Prim.Native.Nat.{ℕ, zero, suc, ◌+◌, ◌≤◌, ◌<◌}
use mathlib.Core.Path.{◌≡◌, refl}
use native.Mathlib.Omega.{arith}
use Rattle.scaled.specs.declared.Scaled.{Scaled}
use Rattle.lines.specs.Lines.{state_lines}

-- the lines of equal numbers are equal
pub lines_are : {n : ℕ} {weight share weight' share' : ℕ → Scaled} → ((i : ℕ) → i < n → weight i ≡ weight' i) → ((i : ℕ) → i < n → share i ≡ share' i)
    → (count i : ℕ) → i + count ≤ n → state_lines weight share count i ≡ state_lines weight' share' count i
unfolding state_lines
lines_are w s zero i l = refl
lines_are w s (suc count) i l = rw (w i (omega arith), s i (omega arith), lines_are w s count (i + 1) (omega arith))
