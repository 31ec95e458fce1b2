use mathlib.Core.Path.{sym, ap, ◌∙◌}
use Rattle.refusal.specs.Table.{verdict}
use Rattle.chain.proofs.Reading.{accepted_whole}
use Rattle.reach.proofs.ReachLaws.{masks_refused, masks_accepted, masks_mean}
use Rattle.reach.proofs.reach_masks.Goals as goal

pub returns-in_default : goal.returns-in_default
returns-in_default c =
    let h = masks_refused _ (sym c.check.ensures.computed ∙ ap verdict c.in_default.is) in
    record { bits = h; meaning = masks_mean _ _ h }

pub invariant_of-closure : goal.invariant_of-closure
invariant_of-closure c = record { sound = (accepted_whole _ (sym c.check.ensures.computed ∙ ap verdict c.in-Ok.is)).sound }

pub returns : goal.returns
returns c =
    let h = masks_accepted _ _ (accepted_whole _ (sym c.check.ensures.computed ∙ ap verdict c.in-Ok.is)) c.closure.ensures in
    record { bits = h; meaning = masks_mean _ _ h }
