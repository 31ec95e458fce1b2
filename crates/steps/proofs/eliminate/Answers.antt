-- Assumes nothing.
use Rattle.std.proofs.Common.{arith}
use Rattle.kernel.proofs.Lent.{rewritten_none, rewritten_on}
use Rattle.steps.proofs.Steps.{standing, eliminated_none, eliminated_go}
use Rattle.steps.proofs.eliminate.Goals as goal

pub loop-k-init : goal.loop-k-init
loop-k-init c = rewritten_none (eliminated_none _)

pub step-requires-clause-standing : goal.step-requires-clause-standing
step-requires-clause-standing c =
    let I = c.loop-k.invariant in
    rw I.same_order (standing (omega arith) I.holds (c.requires.stages_fit.at c.loop-k.k (omega arith)))

pub loop-k-preserved : goal.loop-k-preserved
loop-k-preserved c =
    let I = c.loop-k.invariant in
    rewritten_on I c.step.ensures (eliminated_go (omega arith) I.holds (rw I.same_order at c.step.ensures.holds))
