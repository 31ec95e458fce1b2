-- A row is updated, or its entry in the pivot's column is Zero and it stays as it is. Assumes nothing.
use Rattle.std.proofs.Common.{sym, ap, ◌∙◌, arith}
use Rattle.scaled.specs.Scaled.{is_zero}
use Rattle.kernel.proofs.Lent.{rewritten_on, rewritten_so}
use Rattle.updating.proofs.Updates.{row_idle, updated_go, ready_on}
use Rattle.updating.proofs.update_rows.Goals as goal
use Rattle.updating.proofs.update_rows.Goals.{then-not-is_zero, else-not-is_zero}

pub loop-i-preserved : goal.loop-i-preserved
loop-i-preserved c =
    let I = c.loop-i.invariant in
    let n = I.same_order in
    elim c.if-not-is_zero.branch [
      | then-not-is_zero w ↦ rw w.x-is (rewritten_on I w.update_row.ensures
          (updated_go (omega arith) (omega arith) (omega arith) (omega arith) I.holds (rw n at w.update_row.ensures.holds)))
      | else-not-is_zero w ↦
          let zero_here = rw n at (ap is_zero (sym c.entry.ensures) ∙ sym w.if-not-is_zero.ensures) in
          let idle = row_idle (omega arith) (ready_on (omega arith) (omega arith) c.requires.ready I.holds) zero_here in
          rw w.x-is (rewritten_so I (updated_go (omega arith) (omega arith) (omega arith) (omega arith) I.holds idle))
    ]
