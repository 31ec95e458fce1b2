-- A chain that 1 to 4 and 14 let pass is told by the closed sets, any other by its refusal. Assumes nothing.
use mathlib.Core.Path.{◌≡◌, sym, ap, ◌∙◌}
use Rattle.std.proofs.lemmas.Result.{err_from_is_err_and}
use Rattle.refusal.specs.Table.{verdict, refusal}
use Rattle.chain.proofs.Reading.{accepted_whole}
use Rattle.reach.proofs.ReachLaws.{rule_refused}
use Rattle.reach.proofs.check_answer.Goals as goal

pub returns-in_err-check : goal.returns-in_err-check
returns-in_err-check c =
    let p = err_from_is_err_and c.from_residual.result c.from_residual.ensures.1 in
    let e : verdict c.from_residual.result ≡ refusal c.in_err-check.field-0.0 = rw (p.1, p.2) in
    let r = rule_refused _ _ (e ∙ c.in_err-check.ensures.computed) e in
    record { computed = r.0; meaning = r.1 }

pub find_answer-requires : goal.find_answer-requires
find_answer-requires c = accepted_whole _ (sym c.check.ensures.computed ∙ ap verdict c.in_ok-check.was)
