use mathlib.Core.Path.{◌≡◌, ◌∙◌}
use native.Mathlib.Omega.{arith}
use Rattle.group_table.specs.Rules.{row_count}
use Rattle.groups.proofs.Filling.{filled_next, filled_end}
use Rattle.groups.proofs.look_up.Goals as goal

pub loop-row-preserved : goal.loop-row-preserved
loop-row-preserved c =
    let h = c.loop-row.invariant in
    let w = c.put_group.ensures in
    (w.kept ∙ h.0, filled_next c.requires.sound_table (omega (arith, c.row_count-row-end.ensures)) h.1 w)

pub returns : goal.returns
returns c =
    let e : c.loop-row.row ≡ row_count c.args.table.now = omega (arith, c.row_count-row-end.ensures) in
    filled_end c.requires.sound_table (rw e at c.loop-row.invariant.1)
