-- Order byte absent, order, rows: in that order.
use Rattle.std.proofs.Common.{sym, ap, ◌∙◌}
use borrow.Author.Rules.{rules}
use borrow.Author.Tests.{tests}
use Rattle.chain.specs.Rules.{order_sound}
use Rattle.file_rules.proofs.Answers.{file_empty, file_order, file_rows}
use Rattle.checking.proofs.check_file.Goals as goal

pub returns-then-is_empty : goal.returns-then-is_empty
returns-then-is_empty c = file_empty _ _ (search (rules, tests))

pub returns-then-not-sound : goal.returns-then-not-sound
returns-then-not-sound c =
    file_order _ _ (search (rules, tests))
    (ap order_sound (sym c.order_in-order.ensures.0) ∙ sym c.order_sound-sound.ensures ∙ c.if-not-sound.true)

pub returns : goal.returns
returns c =
    let o = c.order_in-order.ensures.0 in
    file_rows _ _ (search (rules, tests))
    (ap order_sound (sym o) ∙ sym c.order_sound-sound.ensures ∙ c.if-not-sound.false) _
    (c.check_rows.ensures ∙ rw (c.form_in-form.ensures, o))
