-- `two_at`: two bytes, low byte first. Assumes nothing.
use Rattle.std.proofs.Common.{arith}
use Rattle.layout.specs.Bytes.{short_rate}
use Rattle.layout.proofs.two_at.Goals as goal

pub returns : goal.returns
unfolding short_rate
returns c = omega arith
