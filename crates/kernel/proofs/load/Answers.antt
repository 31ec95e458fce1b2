-- The pair at a place. Assumes nothing.
use Rattle.std.proofs.Common.{rules}
use Rattle.kernel.specs.Slices.{number_at}
use Rattle.kernel.proofs.load.Goals as goal

pub returns : goal.returns
unfolding number_at
returns c = search rules
