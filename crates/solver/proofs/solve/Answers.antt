-- A chain that 1 to 4, 14, 5 or 6 refuses is refused, and nothing is written; for any other the elimination of its closed set runs on the needed places.
-- Assumes nothing.
use mathlib.Core.Path.{◌≡◌, refl, sym, ap, ◌∙◌}
use native.Mathlib.Omega.{arith}
use Rattle.std.specs.Prelude.{Err}
use Rattle.std.proofs.lemmas.Result.{err_from_is_err_and}
use Rattle.refusal.specs.Table.{verdict}
use Rattle.chain.specs.Rows.{rows_of}
use Rattle.kernel.proofs.Cells.{square}
use Rattle.elimination.proofs.Cut.{cut_long}
use Rattle.solver.specs.Lent.{lent}
use Rattle.solver.specs.Inner.{IsFound}
use Rattle.solver.specs.Solve.{Solvable}
use Rattle.solver.proofs.Acceptance.{accepted_solvable}
use Rattle.solver.proofs.Outcomes.{solve_refused, solve_done, runnable}
use Rattle.solver.proofs.solve.Goals as goal
use Rattle.solver.proofs.solve.Goals.{In_ok-found}

pub returns-in_err-found : goal.returns-in_err-found
returns-in_err-found c =
    let p = err_from_is_err_and c.from_residual.result c.from_residual.ensures.1 in
    let t : c.from_residual.result ≡ Err c.in_err-found.field-0.0 = rw (p.1, p.2) in
    solve_refused (ap verdict t ∙ c.in_err-found.ensures.answer) t

-- a chain that `admit` lets pass
facts : (c : In_ok-found)
    → let a = c.args in
    Solvable (rows_of a.chain) (lent a.m.now a.e.now a.wm.now a.we.now a.sm.now a.se.now)
facts c = accepted_solvable _ _ (sym c.in_ok-found.ensures.answer)

-- and its set
found : (c : In_ok-found) → IsFound (rows_of c.args.chain) c.in_ok-found.found
found c = c.admit.ensures.found _ c.in_ok-found.was

pub invariant_of-run : goal.invariant_of-run
invariant_of-run c = record { sound = (facts (goal.at.invariant_of-run c).In_ok-found).accepted.sound }

pub overflow_mul-need : goal.overflow_mul-need
overflow_mul-need c = omega (arith, square _ (facts (goal.at.overflow_mul-need c).In_ok-found).accepted.sound.order.high)

pub slice_bounds-run-end : goal.slice_bounds-run-end
slice_bounds-run-end c = (facts (goal.at.slice_bounds-run-end c).In_ok-found).room.for_work.for_m

pub slice_bounds-run-end-2 : goal.slice_bounds-run-end-2
slice_bounds-run-end-2 c = cut_long _ _ (facts (goal.at.slice_bounds-run-end-2 c).In_ok-found).room.for_work.for_m

pub slice_bounds-run-end-3 : goal.slice_bounds-run-end-3
slice_bounds-run-end-3 c = (facts (goal.at.slice_bounds-run-end-3 c).In_ok-found).room.for_work.for_e

pub slice_bounds-run-end-4 : goal.slice_bounds-run-end-4
slice_bounds-run-end-4 c = cut_long _ _ (facts (goal.at.slice_bounds-run-end-4 c).In_ok-found).room.for_work.for_e

pub slice_bounds-run-end-5 : goal.slice_bounds-run-end-5
slice_bounds-run-end-5 c = (facts (goal.at.slice_bounds-run-end-5 c).In_ok-found).room.for_weights.for_m

pub slice_bounds-run-end-6 : goal.slice_bounds-run-end-6
slice_bounds-run-end-6 c = cut_long _ _ (facts (goal.at.slice_bounds-run-end-6 c).In_ok-found).room.for_weights.for_m

pub slice_bounds-run-end-7 : goal.slice_bounds-run-end-7
slice_bounds-run-end-7 c = (facts (goal.at.slice_bounds-run-end-7 c).In_ok-found).room.for_weights.for_e

pub slice_bounds-run-end-8 : goal.slice_bounds-run-end-8
slice_bounds-run-end-8 c = cut_long _ _ (facts (goal.at.slice_bounds-run-end-8 c).In_ok-found).room.for_weights.for_e

pub slice_bounds-run-end-9 : goal.slice_bounds-run-end-9
slice_bounds-run-end-9 c = (facts (goal.at.slice_bounds-run-end-9 c).In_ok-found).room.for_shares.for_m

pub slice_bounds-run-end-10 : goal.slice_bounds-run-end-10
slice_bounds-run-end-10 c = cut_long _ _ (facts (goal.at.slice_bounds-run-end-10 c).In_ok-found).room.for_shares.for_m

pub slice_bounds-run-end-11 : goal.slice_bounds-run-end-11
slice_bounds-run-end-11 c = (facts (goal.at.slice_bounds-run-end-11 c).In_ok-found).room.for_shares.for_e

pub slice_bounds-run-end-12 : goal.slice_bounds-run-end-12
slice_bounds-run-end-12 c = cut_long _ _ (facts (goal.at.slice_bounds-run-end-12 c).In_ok-found).room.for_shares.for_e

pub run-requires : goal.run-requires
run-requires c =
    let d = (goal.at.run-requires c).In_ok-found in
    let r = runnable (facts d) (λ p. omega (arith, c.args.chain.rates_fit p)) (found d).members (found d).size_is in
    record { weighable = r.0; square = r.1.0; weights_sized = r.1.1.0; shares_sized = r.1.1.1 }

pub returns : goal.returns
returns c = let d = (goal.at.returns c).In_ok-found in
    solve_done c.in_ok-found.ensures.answer refl (λ p. omega (arith, c.args.chain.rates_fit p)) (found d).members c.run.ensures
