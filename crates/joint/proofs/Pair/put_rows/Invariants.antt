-- One call of `put_row` for each row; the rows before it have been put. Assumes nothing.
use Rattle.chain.specs.Rows.{rows_of}
use Rattle.layout.specs.Buffers.{buffers}
use Rattle.joined.specs.Joined.{joint_rates}
use Rattle.joint.proofs.RowLaws.{RowsSoFar}
use Rattle.joint.proofs.Pair.put_rows.Given as goal

abbrev pub invariant-loop-x : goal.invariant-loop-x
invariant-loop-x l =
    RowsSoFar l.n (joint_rates (rows_of l.self.first) (rows_of l.self.second)) (buffers l.initial.starts l.initial.columns l.initial.rates) l.x l.p
    (buffers l.starts l.columns l.rates)
