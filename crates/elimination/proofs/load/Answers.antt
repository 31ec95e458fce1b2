-- Row after row into a matrix of zeros. Assumes nothing.
use mathlib.Core.Path.{refl}
use native.Mathlib.Omega.{arith}
use Rattle.kernel.proofs.Lent.{rewritten_on}
use Rattle.members.proofs.Listing.{listed_below}
use Rattle.elimination.proofs.Cleared.{cleared}
use Rattle.elimination.proofs.Loading.{zeros_none, loaded_go}
use Rattle.elimination.proofs.load.Goals as goal

pub loop-a-init : goal.loop-a-init
loop-a-init c =
    let x = c.args.x.now in
    record { same_order = refl; lent_m = refl; lent_e = refl; holds = zeros_none (cleared c.clear.ensures x.size_m x.size_e) }

pub loop-a-preserved : goal.loop-a-preserved
loop-a-preserved c =
    let L = c.requires in
    let I = c.loop-a.invariant in
    rewritten_on I c.load_row.ensures (loaded_go c.args.sound.sound (listed_below L.listed) (omega arith) I.holds (rw I.same_order at c.load_row.ensures.holds))
