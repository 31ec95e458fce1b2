-- One turn for each column; the entries before it have been put. Assumes nothing.
use Prim.Native.Nat.{◌*◌}
use Rattle.chain.specs.Rows.{rows_of}
use Rattle.joined.specs.Joined.{joint_rates}
use Rattle.joint.proofs.RowLaws.{RowSoFar}
use Rattle.joint.proofs.Pair.put_row.Given as goal

abbrev pub invariant-loop-y : goal.invariant-loop-y
invariant-loop-y l =
    RowSoFar (l.self.first.order * l.self.second.order) (joint_rates (rows_of l.self.first) (rows_of l.self.second)) l.x l.initial.columns l.initial.rates l.p l.y l.q l.columns l.rates
