-- One call of `check_row` for each row, then what is left over.
use Rattle.std.proofs.Common.{sym, ◌∙◌, arith}
use Rattle.layout.proofs.Rates.{maps_low}
use Rattle.layout.proofs.Columns.{count_stored}
use Rattle.file_rules.proofs.Checks.{rows_more, row_is}
use Rattle.checking.proofs.File.check_rows.Goals as goal

pub count_entries-entries-requires : goal.count_entries-entries-requires
count_entries-entries-requires c =
    let r = row_is _ _ _ _ _ _ _ (sym c.in_ok-next.ensures) in
    let low = maps_low c.args.self.form c.args.self.order in
    omega (arith, r.whole)

pub overflow_add-entries : goal.overflow_add-entries
overflow_add-entries c =
    let r = rows_more _ _ _ _ _ _ _ c.loop-row.invariant c.loop-row-test.true _ (sym c.in_ok-next.ensures) _
    (c.count_entries-entries.ensures ∙ count_stored c.args.self.bytes.now c.args.self.order c.loop-row.map) in
    omega (arith, r.few, r.inside, c.well_formed)

pub loop-row-preserved : goal.loop-row-preserved
loop-row-preserved c =
    rows_more _ _ _ _ _ _ _ c.loop-row.invariant c.loop-row-test.true _ (sym c.in_ok-next.ensures) _
    (c.count_entries-entries.ensures ∙ count_stored c.args.self.bytes.now c.args.self.order c.loop-row.map)
