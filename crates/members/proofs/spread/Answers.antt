-- Assumes nothing.
use Rattle.std.proofs.Common.{arith}
use Rattle.kernel.proofs.Lent.{stored_on}
use Rattle.members.proofs.Spreading.{spread_go}
use Rattle.members.proofs.spread.Goals as goal

pub loop-i-preserved : goal.loop-i-preserved
loop-i-preserved c =
    let I = c.loop-i.invariant in
    let g = c.spread_at-left.ensures in
    stored_on I g (spread_go (omega arith) I.holds g.holds)
