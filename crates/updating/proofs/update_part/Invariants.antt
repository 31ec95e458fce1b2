-- The loop's invariant: the entries (i, b) are updated up to, not including, column j. Assumes nothing.
use Rattle.kernel.specs.Lent.{cells, Rewritten}
use Rattle.updating.specs.Inner.{Mapped, updated}
use Rattle.updating.proofs.update_part.Given as goal

abbrev pub invariant-loop-j : goal.invariant-loop-j
invariant-loop-j l = let x = l.initial.x in Rewritten (Mapped x.order l.i l.from l.j (updated x.order (cells x) l.k l.i)) x l.x
