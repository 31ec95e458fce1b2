-- The loop's invariant: the states below s are counted.
use Rattle.std.proofs.Common.{suc}
use Rattle.groups.proofs.Filling.{Mapped}
use Rattle.groups.proofs.count_row.Given as goal

abbrev pub invariant-loop-s : goal.invariant-loop-s
invariant-loop-s l = Mapped suc l.first l.s l.fn.seen l.seen
