-- One turn for each column; the entries before it have been put. Assumes nothing.
use native.Mathlib.Omega.{arith}
use Rattle.joint.proofs.RowLaws.{row_moved, row_first, row_room, row_more, row_none}
use Rattle.joint.proofs.Pair.put_row.Goals as goal
use Rattle.joint.proofs.Pair.put_row.Goals.{then-rate-gt0, else-rate-gt0}

pub loop-y-init : goal.loop-y-init
loop-y-init c = row_first _ _ _ _ _ _

pub offset_bounds-columns-q : goal.offset_bounds-columns-q
offset_bounds-columns-q c =
    let room = row_room _ _ _ _ _ _ c.loop-y.invariant c.loop-y-test.true (omega (arith, c.if-rate-gt0.true, c.rate-rate.ensures)) in
    omega (arith, room)

pub bounds-columns-q : goal.bounds-columns-q
bounds-columns-q c =
    let room = row_room _ _ _ _ _ _ c.loop-y.invariant c.loop-y-test.true (omega (arith, c.if-rate-gt0.true, c.rate-rate.ensures)) in
    omega (arith, room)

pub offset_bounds-rates-q : goal.offset_bounds-rates-q
offset_bounds-rates-q c =
    let room = row_room _ _ _ _ _ _ c.loop-y.invariant c.loop-y-test.true (omega (arith, c.if-rate-gt0.true, c.rate-rate.ensures)) in
    omega (arith, room)

pub bounds-rates-q : goal.bounds-rates-q
bounds-rates-q c =
    let room = row_room _ _ _ _ _ _ c.loop-y.invariant c.loop-y-test.true (omega (arith, c.if-rate-gt0.true, c.rate-rate.ensures)) in
    omega (arith, room)

pub overflow_add-q : goal.overflow_add-q
overflow_add-q c =
    let room = row_room _ _ _ _ _ _ c.loop-y.invariant c.loop-y-test.true (omega (arith, c.if-rate-gt0.true, c.rate-rate.ensures)) in
    omega (arith, room)

pub loop-y-preserved : goal.loop-y-preserved
loop-y-preserved c =
    let t = c.loop-y.invariant in
    let l = c.loop-y-test.true in
    elim c.if-rate-gt0.branch [
      | then-rate-gt0 w ↦
          row_moved w.columns-is w.rates-is w.q-is (row_more _ _ _ _ _ _ t l (omega (arith, w.if-rate-gt0.true)) c.rate-rate.ensures)
      | else-rate-gt0 w ↦
          row_moved w.columns-is w.rates-is w.q-is (row_none _ _ _ _ _ _ t l (omega (arith, w.if-rate-gt0.false, c.rate-rate.ensures)))
    ]
