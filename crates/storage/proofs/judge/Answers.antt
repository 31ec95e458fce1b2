-- The refusals of the bytes first, then 5.
use Rattle.std.proofs.Common.{◌≡◌, sym, ◌∙◌, arith}
use Rattle.std.proofs.lemmas.Result.{err_from_is_err_and}
use Rattle.refusal.specs.Table.{refusal}
use Rattle.file_rules.proofs.Answers.{file_is}
use Rattle.file_rules.proofs.Readings.{read_refused}
use Rattle.storage.specs.Reading.{told}
use Rattle.storage.proofs.Calls.{judged_room, judged_short}
use Rattle.storage.proofs.judge.Goals as goal

pub returns-in_err-entries : goal.returns-in_err-entries
returns-in_err-entries c =
    let p = err_from_is_err_and c.from_residual.result c.from_residual.ensures.1 in
    let e : told c.from_residual.result ≡ refusal c.in_err-entries.field-0.0 = rw (p.1, p.2) in
    e ∙ read_refused _ _ _ _ _ _ c.in_err-entries.ensures

pub bounds-bytes-0 : goal.bounds-bytes-0
bounds-bytes-0 c = let f = file_is _ _ _ (sym c.in_ok-entries.ensures) in omega (arith, f.some)

pub returns-then-not-room_for : goal.returns-then-not-room_for
returns-then-not-room_for c =
    judged_short _ _ _ _ _ _ (sym c.in_ok-entries.ensures) _ c.order_in-order.ensures.0 _ c.room_for.ensures c.if-not-room_for.true

pub returns : goal.returns
returns c =
    judged_room _ _ _ _ _ _ (sym c.in_ok-entries.ensures) _ c.order_in-order.ensures.0 _ c.room_for.ensures c.if-not-room_for.false _ c.form_in-form.ensures
