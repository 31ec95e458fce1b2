use Rattle.packing.proofs.RowFill.{Filling}
use Rattle.packing.proofs.fill.fill_row.Given as goal

abbrev pub invariant-loop-j : goal.invariant-loop-j
invariant-loop-j l = Filling l.form l.bytes l.n l.map l.initial.columns l.initial.rates l.initial.entry l.columns l.rates l.j l.entry l.place
