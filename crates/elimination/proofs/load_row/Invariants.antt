-- The loop's invariant: the entries of the row before place p are put. Assumes nothing.
use Rattle.chain.specs.Rows.{rows_of}
use Rattle.kernel.specs.Lent.{Rewritten}
use Rattle.elimination.specs.Inner.{RowLoaded}
use Rattle.elimination.proofs.load_row.Given as goal

abbrev pub invariant-loop-p : goal.invariant-loop-p
invariant-loop-p l =
    let x = l.initial.x in
    Rewritten (RowLoaded (rows_of l.chain) l.states x.order l.a l.p) x l.x
