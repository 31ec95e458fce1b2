-- The loop's invariant: the states of the rows before this one have their groups.
use Rattle.std.proofs.Common.{◌≡◌, length}
use Rattle.groups.proofs.Filling.{Filled}
use Rattle.groups.proofs.look_up.Given as goal

abbrev pub invariant-loop-row : goal.invariant-loop-row
invariant-loop-row l = (length l.of ≡ 64) × Filled l.table l.row l.of
