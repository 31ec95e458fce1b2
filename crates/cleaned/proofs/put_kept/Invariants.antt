-- `put_kept`: one turn for each rate; what is still to be put is the invariant of Loops. Assumes nothing.
use Rattle.cleaned.proofs.Loops.{Keeping}
use Rattle.cleaned.proofs.put_kept.Given as goal

abbrev pub invariant-loop-p : goal.invariant-loop-p
invariant-loop-p l = Keeping l.values l.rates l.fn.out l.out l.p l.q
