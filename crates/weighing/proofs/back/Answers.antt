-- Assumes nothing.
use Rattle.std.proofs.Common.{◌-◌, arith}
use Rattle.kernel.proofs.Entries.{kept_on}
use Rattle.kernel.proofs.Places.{placed_value}
use Rattle.kernel.proofs.Lent.{stored_so, stored_on}
use Rattle.weighing.proofs.BackSubstitution.{back_first, flow_fits, back_go}
use Rattle.weighing.proofs.back.Goals as goal

pub loop-k-init : goal.loop-k-init
loop-k-init c =
    let p = placed_value c.place.ensures.holds c.one.ensures in
    stored_so c.place.ensures (p.kept, λ a h. back_first _ a c.requires.some p)

pub back_at-requires-clause-flow_fits : goal.back_at-requires-clause-flow_fits
back_at-requires-clause-flow_fits c =
    let r = c.requires in
    flow_fits _ r.x _ _ r.done r.fits (c.loop-k.k - 1) (omega arith) (λ i g h. c.loop-k.invariant.holds.1 r.x r.done i (omega arith) h)

pub loop-k-preserved : goal.loop-k-preserved
loop-k-preserved c =
    let I = c.loop-k.invariant in
    let p = c.back_at.ensures in
    stored_on I p (
      kept_on I.holds.0 p.holds.kept,
      λ a h. back_go _ a _ _ h (c.loop-k.k - 1) (omega arith) p.holds (λ i g l. I.holds.1 a h i (omega arith) l),
    )
