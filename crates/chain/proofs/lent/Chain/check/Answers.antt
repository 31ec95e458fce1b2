use mathlib.Core.Path.{◌≡◌, sym, ap, ◌∙◌}
use Rattle.refusal.specs.Table.{verdict, refusal}
use Rattle.std.proofs.lemmas.Result.{err_from_is_err_and}
use Rattle.chain.proofs.Reading.{check_means, rules_sound, rules_refused, rules_kept}
use Rattle.chain.proofs.lent.Chain.check.Goals as goal

pub returns-in_err-check_rules : goal.returns-in_err-check_rules
returns-in_err-check_rules c =
    let p = err_from_is_err_and c.from_residual.result c.from_residual.ensures.1 in
    let e : verdict c.from_residual.result ≡ refusal c.in_err-check_rules.field-0.0 = rw (p.1, p.2) in
    let m = check_means _ (e ∙ rules_refused _ c.in_err-check_rules.ensures) in
    record { computed = m.0; meaning = m.1 }

pub invariant_of-check_zeros : goal.invariant_of-check_zeros
invariant_of-check_zeros c = record { sound = rules_sound _ (sym c.check_rules.ensures ∙ ap verdict c.in_ok-check_rules.was) }

pub returns : goal.returns
returns c =
    let m =
    check_means _ (rules_kept _ (sym c.check_rules.ensures ∙ ap verdict c.in_ok-check_rules.was) c.check_zeros.ensures)
    in
    record { computed = m.0; meaning = m.1 }
