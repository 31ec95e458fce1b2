-- What 1 to 4, 14, 13, 12, 11, 5 and 6 refuse is refused, and nothing is written; otherwise the shares are summed by group. Assumes nothing.
use mathlib.Core.Bool.{true}
use mathlib.Core.List.{List}
use mathlib.Core.Path.{◌≡◌, refl, ap, sym, ◌∙◌}
use Prim.Native.Nat.{ℕ}
use lib.ListN.{length}
use Rattle.std.specs.Prelude.{Result, Ok, Err}
use Rattle.std.proofs.lemmas.Result.{err_from_is_err_and}
use Rattle.refusal.specs.declared.Refusal.{Refusal}
use Rattle.refusal.specs.Table.{verdict}
use Rattle.chain.specs.Rows.{Rows}
use Rattle.group_table.specs.Sums.{group_places}
use Rattle.groups.specs.Inner.{Summable}
use Rattle.solver.specs.Lent.{Lent, both_have, Places}
use Rattle.solver.specs.Solve.{Solved}
use Rattle.elimination.proofs.Cut.{cut}
use Rattle.group_shares.specs.GroupShares.{GroupLent, group_lent}
use Rattle.group_shares.specs.Inner.{suits}
use Rattle.group_shares.proofs.Outcomes.{by_solving, turned_away, solving_refused, places, group_room, summable, groups_done}
use Rattle.group_shares.proofs.solve_groups.Goals as goal

pub returns-then-not-suits : goal.returns-then-not-suits
returns-then-not-suits c =
    let a = c.args in
    let old = group_lent a.m.now a.e.now a.wm.now a.we.now a.sm.now a.se.now a.gm.now a.ge.now in
    turned_away _ old _ (sym c.suits.ensures ∙ c.if-not-suits.true) c.admit.ensures

-- a refusal of solving is passed on
passed_on : {c : Rows} {old mid : Lent} {r s : Result ℕ Refusal} → r ≡ s → Solved c old s mid → Solved c old r mid
passed_on t h = rw t h

pub returns-in_err-bound : goal.returns-in_err-bound
returns-in_err-bound c =
    let a = c.args in
    let old = group_lent a.m.now a.e.now a.wm.now a.we.now a.sm.now a.se.now a.gm.now a.ge.now in
    let p = err_from_is_err_and c.from_residual.result c.from_residual.ensures.1 in
    let t : c.from_residual.result ≡ Err c.in_err-bound.field-0.0 = rw (p.1, p.2) in
    let s = passed_on t c.in_err-bound.ensures in
    let q = by_solving _ _ old (sym c.suits.ensures ∙ c.if-not-suits.false) s in
    solving_refused _ old q t s

-- ---- a chain that `solve` lets pass

pub returns : goal.returns
returns c =
    let a = c.args in
    let old = group_lent a.m.now a.e.now a.wm.now a.we.now a.sm.now a.se.now a.gm.now a.ge.now in
    let q = by_solving _ _ old (sym c.suits.ensures ∙ c.if-not-suits.false) c.in_ok-bound.ensures in
    groups_done _ old q refl c.in_ok-bound.ensures c.sum_shares.ensures

record Facts (n : ℕ) (table : List ℕ) (old : GroupLent) (mid : Lent) : Type 0 where
  shares : Places n mid.shares
  groups : Places group_places old.groups
  sums : Summable n table (cut n mid.shares) (cut group_places old.groups)

facts : (c : Rows) (table : List ℕ) (old : GroupLent) (r : Result ℕ Refusal) (mid : Lent) (k : ℕ)
    → suits c.order table (both_have group_places (length old.groups.m) (length old.groups.e)) ≡ true → Solved c old.solving r mid → r ≡ Ok k
    → Facts c.order table old mid
facts c table old r mid k suited solved done =
    let q = by_solving c table old suited solved in
    let d = ap verdict done in
    record { shares = places table old q d solved; groups = group_room table old q d solved; sums = summable table old q d solved }

pub slice_bounds-sum_shares-end : goal.slice_bounds-sum_shares-end
slice_bounds-sum_shares-end c =
    let a = c.args in
    let old = group_lent a.m.now a.e.now a.wm.now a.we.now a.sm.now a.se.now a.gm.now a.ge.now in
    (facts _ _ old _ _ _ (sym c.suits.ensures ∙ c.if-not-suits.false) c.in_ok-bound.ensures refl).shares.for_m

pub slice_bounds-sum_shares-end-2 : goal.slice_bounds-sum_shares-end-2
slice_bounds-sum_shares-end-2 c =
    let a = c.args in
    let old = group_lent a.m.now a.e.now a.wm.now a.we.now a.sm.now a.se.now a.gm.now a.ge.now in
    sym (facts _ _ old _ _ _ (sym c.suits.ensures ∙ c.if-not-suits.false) c.in_ok-bound.ensures refl).sums.sized.size_m

pub slice_bounds-sum_shares-end-3 : goal.slice_bounds-sum_shares-end-3
slice_bounds-sum_shares-end-3 c =
    let a = c.args in
    let old = group_lent a.m.now a.e.now a.wm.now a.we.now a.sm.now a.se.now a.gm.now a.ge.now in
    (facts _ _ old _ _ _ (sym c.suits.ensures ∙ c.if-not-suits.false) c.in_ok-bound.ensures refl).shares.for_e

pub slice_bounds-sum_shares-end-4 : goal.slice_bounds-sum_shares-end-4
slice_bounds-sum_shares-end-4 c =
    let a = c.args in
    let old = group_lent a.m.now a.e.now a.wm.now a.we.now a.sm.now a.se.now a.gm.now a.ge.now in
    sym (facts _ _ old _ _ _ (sym c.suits.ensures ∙ c.if-not-suits.false) c.in_ok-bound.ensures refl).sums.sized.size_e

pub slice_bounds-sum_shares-end-5 : goal.slice_bounds-sum_shares-end-5
slice_bounds-sum_shares-end-5 c =
    let a = c.args in
    let old = group_lent a.m.now a.e.now a.wm.now a.we.now a.sm.now a.se.now a.gm.now a.ge.now in
    (facts _ _ old _ _ _ (sym c.suits.ensures ∙ c.if-not-suits.false) c.in_ok-bound.ensures refl).groups.for_m

pub slice_bounds-sum_shares-end-6 : goal.slice_bounds-sum_shares-end-6
slice_bounds-sum_shares-end-6 c =
    let a = c.args in
    let old = group_lent a.m.now a.e.now a.wm.now a.we.now a.sm.now a.se.now a.gm.now a.ge.now in
    sym (facts _ _ old _ _ _ (sym c.suits.ensures ∙ c.if-not-suits.false) c.in_ok-bound.ensures refl).sums.room.size_m

pub slice_bounds-sum_shares-end-7 : goal.slice_bounds-sum_shares-end-7
slice_bounds-sum_shares-end-7 c =
    let a = c.args in
    let old = group_lent a.m.now a.e.now a.wm.now a.we.now a.sm.now a.se.now a.gm.now a.ge.now in
    (facts _ _ old _ _ _ (sym c.suits.ensures ∙ c.if-not-suits.false) c.in_ok-bound.ensures refl).groups.for_e

pub slice_bounds-sum_shares-end-8 : goal.slice_bounds-sum_shares-end-8
slice_bounds-sum_shares-end-8 c =
    let a = c.args in
    let old = group_lent a.m.now a.e.now a.wm.now a.we.now a.sm.now a.se.now a.gm.now a.ge.now in
    sym (facts _ _ old _ _ _ (sym c.suits.ensures ∙ c.if-not-suits.false) c.in_ok-bound.ensures refl).sums.room.size_e

pub sum_shares-requires : goal.sum_shares-requires
sum_shares-requires c =
    let a = c.args in
    let old = group_lent a.m.now a.e.now a.wm.now a.we.now a.sm.now a.se.now a.gm.now a.ge.now in
    (facts _ _ old _ _ _ (sym c.suits.ensures ∙ c.if-not-suits.false) c.in_ok-bound.ensures refl).sums
