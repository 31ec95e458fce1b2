-- `put_starts`: one call of `count_positive` for each start; what is still to be put is the invariant of Loops. Assumes nothing.
use Prim.Native.Nat.{◌+◌, ◌-◌, ◌≤◌}
use mathlib.Core.Path.{◌≡◌}
use native.Mathlib.Omega.{arith}
use lib.ListN.{get_or, take, drop}
use Rattle.cleaned.specs.Cleaned.{new_place}
use Rattle.cleaned.proofs.KeptLaws.{place_within}
use Rattle.cleaned.proofs.Loops.{count_is, recount, recount_next}
use Rattle.cleaned.proofs.put_starts.Goals as goal

-- the positive rates before this start, and that they are at most as many as it says
counted : (c : goal.After-count_positive-count)
    → let start = get_or c.args.starts.now c.loop-row.row 0 in
    (c.loop-row.count + c.count_positive-count.result ≡ new_place c.args.rates.now start) × (new_place c.args.rates.now start ≤ start)
counted c =
    let turn = c.loop-row in
    let rates = c.args.rates.now in
    let start = get_or c.args.starts.now turn.row 0 in
    let e = recount rates turn.p start (turn.invariant.up (omega arith)) in
    (omega (arith, e, turn.invariant.counted, c.count_positive-count.ensures, count_is (take (start - turn.p) (drop turn.p rates))), place_within start rates)

pub overflow_add-count : goal.overflow_add-count
overflow_add-count c = omega (arith, counted c, c.type_inv.starts c.loop-row.row)

pub overflow_cast-out : goal.overflow_cast-out
overflow_cast-out c = omega (arith, counted c, c.type_inv.starts c.loop-row.row)

pub loop-row-preserved : goal.loop-row-preserved
loop-row-preserved c =
    let e = (counted c).0 in
    recount_next _ _ _ c.requires _ _ _ _ c.loop-row.invariant (omega arith) _ _ (omega arith) (omega arith)
