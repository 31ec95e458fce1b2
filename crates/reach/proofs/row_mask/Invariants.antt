use Prim.Native.Nat.{◌≤◌, ◌-◌}
use Rattle.reach.proofs.StepLaws.{RowMask}
use Rattle.reach.proofs.row_mask.Given as goal

abbrev pub invariant-loop-place : goal.invariant-loop-place
invariant-loop-place l = (l.begin ≤ l.place) × (l.place ≤ l.end) × RowMask l.columns l.rates l.row l.begin l.place l.mask

abbrev pub decreases-loop-place : goal.decreases-loop-place
decreases-loop-place l = l.end - l.place
