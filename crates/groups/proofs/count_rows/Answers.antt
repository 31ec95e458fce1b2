use mathlib.Core.Path.{◌≡◌}
use native.Mathlib.Omega.{arith}
use Rattle.group_table.specs.Rules.{row_count}
use Rattle.groups.proofs.Filling.{holders_most, counted_next}
use Rattle.groups.proofs.count_rows.Goals as goal

pub count_row-requires-clause-counts_low : goal.count_row-requires-clause-counts_low
count_row-requires-clause-counts_low c =
    let h = c.loop-row.invariant in
    λ s l. omega (arith, h.at s (omega (arith, h.long)), holders_most c.args.table.now c.loop-row.row s)

pub loop-row-preserved : goal.loop-row-preserved
loop-row-preserved c = counted_next _ c.loop-row.invariant c.count_row.ensures

pub returns : goal.returns
returns c = let e : c.loop-row.row ≡ row_count c.args.table.now = omega (arith, c.row_count-row-end.ensures) in rw (← e) c.loop-row.invariant
