-- One call of `fill_row` for each row; what is still to be put is the invariant of FileFill.
use Rattle.packing.proofs.FileFill.{row_asked, row_filled}
use Rattle.packing.proofs.fill.fill_rows.Goals as goal

pub fill_row-at-requires : goal.fill_row-at-requires
fill_row-at-requires c =
    row_asked _ _ _ _ _ c.requires _ _ _ _ c.loop-row.invariant c.loop-row-test.true

pub loop-row-preserved : goal.loop-row-preserved
loop-row-preserved c =
    row_filled _ _ _ _ _ c.requires _ _ _ _ c.loop-row.invariant c.loop-row-test.true _ _ _ _ c.fill_row-at.ensures
