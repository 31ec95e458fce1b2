-- One call of `put_row` for each row; the rows before it have been put. Assumes nothing.
use native.Mathlib.Omega.{arith}
use Rattle.joint.proofs.RowLaws.{rows_first, rows_room, rows_next, rows_end, rows_few}
use Rattle.joint.proofs.Pair.put_rows.Goals as goal

pub loop-x-init : goal.loop-x-init
loop-x-init c = rows_first _ _ _

pub overflow_cast-starts : goal.overflow_cast-starts
overflow_cast-starts c =
    omega (arith, rows_few _ _ _ c.requires c.loop-x.invariant c.args.self.joinable.order)

pub put_row-p-requires : goal.put_row-p-requires
put_row-p-requires c =
    rows_room _ _ _ c.requires c.loop-x.invariant c.loop-x-test.true

pub loop-x-preserved : goal.loop-x-preserved
loop-x-preserved c =
    rows_next _ _ _ c.requires c.loop-x.invariant c.loop-x-test.true c.put_row-p.ensures

pub overflow_cast-starts-2 : goal.overflow_cast-starts-2
overflow_cast-starts-2 c =
    omega (arith, rows_few _ _ _ c.requires c.loop-x.invariant c.args.self.joinable.order)

pub returns : goal.returns
returns c =
    rows_end _ _ _ c.requires c.loop-x.invariant c.loop-x-test.false
