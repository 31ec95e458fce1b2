-- The loop's invariant: the rows before this one are counted.
use Rattle.groups.specs.Inner.{Counted}
use Rattle.groups.proofs.count_rows.Given as goal

abbrev pub invariant-loop-row : goal.invariant-loop-row
invariant-loop-row l = Counted l.table l.row l.seen
