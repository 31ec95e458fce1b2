-- One call of `put` for each row; what is still to be put is the invariant of Storing.
use mathlib.Core.Path.{◌∙◌}
use native.Mathlib.Omega.{arith}
use lib.ListN.{length-set}
use Rattle.packing.proofs.Storing.{ends_within, none_put, row_room, row_put, all_put}
use Rattle.packing.proofs.put.put_chain.Goals as goal

pub loop-row-init : goal.loop-row-init
loop-row-init c = none_put _ _ _ (rw length-set c.requires)

pub slice_bounds-entries-end : goal.slice_bounds-entries-end
slice_bounds-entries-end c = (ends_within c.args.sound.sound c.loop-row.row c.loop-row-test.true).0

pub slice_bounds-entries-end-in-loop-row : goal.slice_bounds-entries-end-in-loop-row
slice_bounds-entries-end-in-loop-row c = (ends_within c.args.sound.sound c.loop-row.row c.loop-row-test.true).1

pub put-m-requires : goal.put-m-requires
put-m-requires c = row_room _ _ _ _ _ _ c.loop-row.invariant c.loop-row-test.true

pub loop-row-preserved : goal.loop-row-preserved
loop-row-preserved c = row_put _ _ _ _ _ _ c.loop-row.invariant c.loop-row-test.true _ _ c.put-m.ensures

pub returns : goal.returns
returns c = all_put _ _ _ _ _ _ c.loop-row.invariant (omega arith) ∙ rw c.first_of.ensures.0
