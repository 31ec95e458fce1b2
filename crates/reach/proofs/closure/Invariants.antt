-- The outer loop's invariant: paths by way of states below k. The inner one's: the step at k is done for the states below i. Assumes nothing.
use mathlib.Core.Path.{◌≡◌}
use lib.ListN.{length}
use Rattle.chain.specs.Rows.{rows_of}
use Rattle.reach.proofs.StepLaws.{Reached, Pass}
use Rattle.reach.proofs.closure.Given as goal

abbrev pub invariant-loop-i : goal.invariant-loop-i
invariant-loop-i l = (length l.masks.rows ≡ 64) × Pass l.k l.through l.initial.masks.rows l.i l.masks.rows

abbrev pub invariant-loop-k : goal.invariant-loop-k
invariant-loop-k l = (length l.masks.rows ≡ 64) × Reached l.n (rows_of l.sound.chain) l.k l.masks.rows
