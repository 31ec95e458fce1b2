-- `four_at`: four bytes, low byte first. Assumes nothing.
use Rattle.std.proofs.Common.{arith}
use Rattle.layout.specs.Bytes.{stored_rate}
use Rattle.layout.proofs.four_at.Goals as goal

pub returns : goal.returns
unfolding stored_rate
returns c = omega arith
