-- The loop's invariant: the steps below k are made. Assumes nothing.
use Rattle.kernel.specs.Slices.{entry_at}
use Rattle.kernel.specs.Lent.{Rewritten}
use Rattle.steps.specs.Inner.{Eliminated}
use Rattle.steps.proofs.eliminate.Given as goal

abbrev pub invariant-loop-k : goal.invariant-loop-k
invariant-loop-k l = let x = l.initial.x in Rewritten (λ s. Eliminated x.order l.k (entry_at x.order s)) x l.x
