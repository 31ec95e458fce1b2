-- The first refusal of 1 to 4, 14, 5 and 6, or the bound count and the set. Assumes nothing.
use mathlib.Core.Path.{◌≡◌, sym, ap, ◌∙◌}
use native.Mathlib.Omega.{arith}
use Rattle.std.specs.Prelude.{Err}
use Rattle.std.proofs.lemmas.Result.{err_from_is_err_and}
use Rattle.refusal.specs.Table.{verdict}
use Rattle.markov.proofs.Members.{size_le}
use Rattle.chain.proofs.Reading.{accepted_whole}
use Rattle.reach.specs.Reach.{stands}
use Rattle.solver.proofs.Admission.{told, rules_refuse, room_refuses, sets_refuse, none_refuses}
use Rattle.solver.proofs.admit.Goals as goal

pub returns-in_err-check : goal.returns-in_err-check
returns-in_err-check c =
    let p = err_from_is_err_and c.from_residual.result c.from_residual.ensures.1 in
    let t : c.from_residual.result ≡ Err c.in_err-check.field-0.0 = rw (p.1, p.2) in
    rules_refuse _ _ c.in_err-check.ensures.computed t

pub enough-requires : goal.enough-requires
enough-requires c = (accepted_whole _ (told c.in_ok-check.was c.check.ensures.computed)).sound.order.high

pub returns-then-not-enough : goal.returns-then-not-enough
returns-then-not-enough c =
    room_refuses _ _ (told c.in_ok-check.was c.check.ensures.computed) (sym c.enough.ensures ∙ c.if-not-enough.true)

pub find_answer-answer-requires : goal.find_answer-answer-requires
find_answer-answer-requires c = accepted_whole _ (told c.in_ok-check.was c.check.ensures.computed)

pub returns-in_err-answer : goal.returns-in_err-answer
returns-in_err-answer c =
    let p = err_from_is_err_and c.from_residual-in_err-answer.result c.from_residual-in_err-answer.ensures.1 in
    let t : c.from_residual-in_err-answer.result ≡ Err c.in_err-answer.field-0.0 = rw (p.1, p.2) in
    sets_refuse _ _ (told c.in_ok-check.was c.check.ensures.computed) (sym c.enough.ensures ∙ c.if-not-enough.false)
    (sym (ap verdict c.in_err-answer.was) ∙ c.find_answer-answer.ensures.computed) t

-- the accepted chain has at most 64 states
pub size_of-size-requires : goal.size_of-size-requires
size_of-size-requires c = (accepted_whole _ (told c.in_ok-check.was c.check.ensures.computed)).sound.order.high

pub bound_count-requires : goal.bound_count-requires
bound_count-requires c =
    let h = accepted_whole _ (told c.in_ok-check.was c.check.ensures.computed) in
    omega (arith, c.size_of-size.ensures, size_le c.args.chain.order (stands c.find_answer-answer.result.set), h.sound.order.high)

pub returns : goal.returns
returns c =
    none_refuses _ _ (told c.in_ok-check.was c.check.ensures.computed) (sym c.enough.ensures ∙ c.if-not-enough.false)
    (told c.in_ok-answer.was c.find_answer-answer.ensures.computed)
    (record { members = c.find_answer-answer.ensures.set; size_is = c.size_of-size.ensures }) c.bound_count.ensures
