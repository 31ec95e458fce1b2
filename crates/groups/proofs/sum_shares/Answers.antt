use Prim.Native.Nat.{◌<◌}
use mathlib.Core.Path.{◌≡◌, ap, ◌∙◌}
use native.Mathlib.Omega.{arith}
use borrow.Author.Rules.{rules}
use lib.IntN.{pos}
use lib.ListN.{length}
use Rattle.basics.proofs.FillLaws.{length_replicate}
use Rattle.kernel.specs.Lent.{held}
use Rattle.kernel.proofs.Places.{still_sized}
use Rattle.kernel.proofs.Lent.{stored_none, stored_on, stored_end}
use Rattle.group_table.specs.Rules.{group_of}
use Rattle.groups.proofs.Summing.{group_below, shares_none, next_fits, shares_next}
use Rattle.groups.proofs.sum_shares.Goals as goal

pub loop-s-init : goal.loop-s-init
loop-s-init c =
    let h = c.clear.ensures in
    let z = c.requires.room in
    stored_none (record {
      sized = record { size_m = ap length h.0 ∙ length_replicate 0 _ ∙ z.size_m; size_e = ap length h.1 ∙ length_replicate (pos 0) _ ∙ z.size_e };
      at = λ g l. shares_none _ _ (length c.args.gm.now) (length c.args.ge.now) h g;
    })

pub add_share-requires : goal.add_share-requires
add_share-requires c =
    let h = c.loop-s.invariant.holds in
    let is = c.look_up.ensures.at c.loop-s.s c.loop-s-test.true in
    let below : group_of c.args.table.now c.loop-s.s < 16 = group_below c.requires.sound c.loop-s.s c.loop-s-test.true in
    record {
      inside = omega (arith, is, h.sized.size_m);
      fit = rw c.load.ensures (next_fits _ _ _ (held c.loop-s.sums) is (omega (arith, is)) h.at (c.requires.fits _ _ (omega arith)));
    }

pub loop-s-preserved : goal.loop-s-preserved
loop-s-preserved c =
    let I = c.loop-s.invariant in
    let h = I.holds in
    let is = c.look_up.ensures.at c.loop-s.s c.loop-s-test.true in
    let below : group_of c.args.table.now c.loop-s.s < 16 = group_below c.requires.sound c.loop-s.s c.loop-s-test.true in
    let p = rw c.load.ensures at c.add_share.ensures in
    stored_on I p (record { sized = still_sized h.sized p.holds.kept; at = shares_next _ _ _ _ is (omega (arith, is)) h.at p.holds })

pub returns : goal.returns
returns c = let q : c.loop-s.s ≡ c.args.n = omega arith in stored_end (rw q at c.loop-s.invariant) (search rules) (search rules)
