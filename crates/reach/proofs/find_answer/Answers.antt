-- Refusal 6 and the set, from the closed masks. Assumes nothing.
use mathlib.Core.Path.{◌∙◌}
use Rattle.reach.proofs.ReachLaws.{masks_first, masks_answer, masks_set}
use Rattle.reach.proofs.find_answer.Goals as goal

pub invariant_of-closure : goal.invariant_of-closure
invariant_of-closure c = record { sound = c.requires.sound }

pub answer_from-requires : goal.answer_from-requires
answer_from-requires c = let s = c.requires in (s.sound.order.high, masks_first _ s c.closure-masks.ensures)

pub returns : goal.returns
returns c =
    let s = c.requires in
    let h = c.closure-masks.ensures in
    let v = masks_answer _ s h c.answer_from.ensures.0 in
    record { computed = v.0; meaning = v.1; set = λ i l. c.answer_from.ensures.1 i ∙ masks_set _ s h i l }
