-- The loop's invariant: the rows before row a hold their rates, the others are 0. Assumes nothing.
use Rattle.chain.specs.Rows.{rows_of}
use Rattle.kernel.specs.Lent.{Rewritten}
use Rattle.elimination.proofs.Loading.{LoadedTo}
use Rattle.elimination.proofs.load.Given as goal

abbrev pub invariant-loop-a : goal.invariant-loop-a
invariant-loop-a l =
    let x = l.fn.x in
    Rewritten (λ _ s. LoadedTo (rows_of l.sound.chain) l.states l.a x.order s) x l.x
