-- The loop's invariant: the rows up to, not including, row i are updated. Assumes nothing.
use Rattle.std.proofs.Common.{◌+◌}
use Rattle.kernel.specs.Lent.{Rewritten}
use Rattle.updating.specs.Inner.{Updated}
use Rattle.updating.proofs.update_rows.Given as goal

abbrev pub invariant-loop-i : goal.invariant-loop-i
invariant-loop-i l = Rewritten (Updated l.initial.x.order l.k (l.k + 1) l.i) l.initial.x l.x
