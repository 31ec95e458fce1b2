-- `put_kept`: one turn for each rate; what is still to be put is the invariant of Loops. Assumes nothing.
use native.Mathlib.Omega.{arith}
use Rattle.cleaned.proofs.Loops.{keep_hit, keep_miss, moved}
use Rattle.cleaned.proofs.put_kept.Goals as goal
use Rattle.cleaned.proofs.put_kept.Goals.{then-rate-gt0, else-rate-gt0}

pub loop-p-preserved : goal.loop-p-preserved
loop-p-preserved c =
    let a = c.requires in
    let f = c.loop-p.invariant in
    let l = c.loop-p-test.true in
    elim c.if-rate-gt0.branch [
      | then-rate-gt0 w ↦ moved w.out-is w.q-is (keep_hit _ _ _ a _ _ _ f l (omega arith))
      | else-rate-gt0 w ↦ moved w.out-is w.q-is (keep_miss _ _ _ a _ _ _ f l (omega arith))
    ]
