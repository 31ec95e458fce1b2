-- `put_starts`: one call of `count_positive` for each start; what is still to be put is the invariant of Loops. Assumes nothing.
use Rattle.cleaned.proofs.Loops.{Recounting}
use Rattle.cleaned.proofs.put_starts.Given as goal

abbrev pub invariant-loop-row : goal.invariant-loop-row
invariant-loop-row l = Recounting l.starts l.rates l.fn.out l.out l.row l.p l.count
