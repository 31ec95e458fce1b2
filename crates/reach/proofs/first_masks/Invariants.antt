use mathlib.Core.Path.{◌≡◌}
use lib.ListN.{length}
use Rattle.chain.specs.Rows.{rows_of}
use Rattle.reach.proofs.StepLaws.{Reached}
use Rattle.reach.proofs.first_masks.Given as goal

abbrev pub invariant-loop-i : goal.invariant-loop-i
invariant-loop-i l = (length l.masks.rows ≡ 64) × Reached l.i (rows_of l.chain) 0 l.masks.rows
