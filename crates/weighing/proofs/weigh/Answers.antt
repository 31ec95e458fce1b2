-- The elimination, then back substitution on what it left. Assumes nothing.
use Rattle.steps.proofs.Steps.{stages_fit}
use Rattle.weighing.proofs.weigh.Goals as goal

pub eliminate-requires-clause-stages_fit : goal.eliminate-requires-clause-stages_fit
eliminate-requires-clause-stages_fit c = stages_fit _ _ c.requires.all_fit
