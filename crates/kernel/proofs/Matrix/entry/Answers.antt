-- The number at the place of the entry. Assumes nothing.
use Rattle.std.proofs.Common.{◌∙◌}
use Rattle.kernel.specs.Slices.{entry_at}
use Rattle.kernel.proofs.Matrix.entry.Goals as goal

pub returns : goal.returns
unfolding entry_at
returns c = c.load.ensures ∙ rw c.cell.ensures.0
