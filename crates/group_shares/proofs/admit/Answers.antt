-- The first refusal of 1 to 4, 14, 13, 12, 11 and 5 for the places of the groups, or the number of rows. Assumes nothing.
use mathlib.Core.Path.{◌≡◌, sym, ◌∙◌}
use Rattle.refusal.specs.Table.{verdict, refusal}
use Rattle.std.proofs.lemmas.Result.{err_from_is_err_and}
use Rattle.solver.proofs.Admission.{told}
use Rattle.group_shares.proofs.Admission.{rules_refuse, table_refuses, room_refuses, none_refuses}
use Rattle.group_shares.proofs.admit.Goals as goal

pub returns-in_err-check : goal.returns-in_err-check
returns-in_err-check c =
    let p = err_from_is_err_and c.from_residual.result c.from_residual.ensures.1 in
    let e : verdict c.from_residual.result ≡ refusal c.in_err-check.field-0.0 = rw (p.1, p.2) in
    e ∙ rules_refuse _ _ _ _ c.in_err-check.ensures.computed

pub returns-in_err-rows : goal.returns-in_err-rows
returns-in_err-rows c =
    let p = err_from_is_err_and c.from_residual-in_err-rows.result c.from_residual-in_err-rows.ensures.1 in
    let e : verdict c.from_residual-in_err-rows.result ≡ refusal c.in_err-rows.field-0.0 = rw (p.1, p.2) in
    e ∙ table_refuses _ _ _ (told c.in_ok-check.was c.check.ensures.computed) _ c.in_err-rows.ensures.computed

pub returns-then-not-sixteen_places : goal.returns-then-not-sixteen_places
returns-then-not-sixteen_places c =
    room_refuses _ _ _ (told c.in_ok-check.was c.check.ensures.computed) (told c.in_ok-rows.was c.check_table.ensures.computed)
    (sym c.sixteen_places.ensures ∙ c.if-not-sixteen_places.true)

pub returns : goal.returns
returns c =
    none_refuses _ _ _ (told c.in_ok-check.was c.check.ensures.computed) (told c.in_ok-rows.was c.check_table.ensures.computed)
    (sym c.sixteen_places.ensures ∙ c.if-not-sixteen_places.false)
