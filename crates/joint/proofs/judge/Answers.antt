-- The first part's refusals, then the second's, then those of the joint chain. Assumes nothing.
use mathlib.Core.Path.{◌≡◌, sym, ap, ◌∙◌}
use Rattle.std.specs.Prelude.{Err}
use Rattle.std.proofs.lemmas.Result.{err_from_is_err_and}
use Rattle.refusal.specs.Table.{verdict, accepts}
use Rattle.chain.specs.Rows.{rows_of}
use Rattle.chain.specs.Rules.{checked}
use Rattle.joined.specs.Verdict.{of_joint}
use Rattle.joined.proofs.Verdicts.{order_fits, count_fits, first_refused, second_refused, both_taken}
use Rattle.joint.specs.declared.JoinRefusal.TheVariants.{First, Second}
use Rattle.joint.specs.Joining.{told_joining}
use Rattle.joint.proofs.Mapped.{mapped_ok, mapped_err, told_joint}
use Rattle.joint.proofs.judge.Goals as goal
use Rattle.joint.proofs.judge.Goals.{In_ok-entries1, In_ok-entries2}

-- the parts that the checks let pass
one : (c : In_ok-entries1) → checked (rows_of c.args.first) ≡ accepts c.in_ok-entries1.entries1
one c = sym c.check.ensures.computed ∙ ap verdict (mapped_ok First _ c.map_err.ensures.cases c.in_ok-entries1.was)

two : (c : In_ok-entries2) → checked (rows_of c.args.second) ≡ accepts c.in_ok-entries2.entries2
two c = sym c.check-2.ensures.computed ∙ ap verdict (mapped_ok Second _ c.map_err-2.ensures.cases c.in_ok-entries2.was)

pub returns-in_err-entries1 : goal.returns-in_err-entries1
returns-in_err-entries1 c =
    let p = err_from_is_err_and c.from_residual.result c.from_residual.ensures.1 in
    let m = mapped_err First _ c.map_err.ensures.cases c.in_err-entries1.was in
    let t : c.from_residual.result ≡ Err (First m.0) = rw (p.1, p.2) (sym c.in_err-entries1.was ∙ m.2) in
    ap told_joining t ∙ first_refused _ _ _ _ _ (ap verdict (sym m.1) ∙ c.check.ensures.computed)

pub returns-in_err-entries2 : goal.returns-in_err-entries2
returns-in_err-entries2 c =
    let p = err_from_is_err_and c.from_residual-in_err-entries2.result c.from_residual-in_err-entries2.ensures.1 in
    let m = mapped_err Second _ c.map_err-2.ensures.cases c.in_err-entries2.was in
    let t : c.from_residual-in_err-entries2.result ≡ Err (Second m.0) = rw (p.1, p.2) (sym c.in_err-entries2.was ∙ m.2) in
    ap told_joining t
    ∙ second_refused _ _ _ _ _ (one (goal.at.returns-in_err-entries2 c).In_ok-entries1) (ap verdict (sym m.1) ∙ c.check-2.ensures.computed)

pub judge_joint-requires : goal.judge_joint-requires
judge_joint-requires c =
    let a = one (goal.at.judge_joint-requires c).In_ok-entries1 in
    let b = two c in (
      order_fits _ a,
      order_fits _ b,
      count_fits _ a (c.args.first.starts_fit c.args.first.order),
      count_fits _ b (c.args.second.starts_fit c.args.second.order),
    )

pub returns : goal.returns
returns c =
    told_joint _ _ c.map_err-3.ensures.cases
    ∙ ap (λ v. (of_joint, v)) c.judge_joint.ensures
    ∙ both_taken _ _ _ _ _ (one (goal.at.returns c).In_ok-entries1) (two (goal.at.returns c).In_ok-entries2)
