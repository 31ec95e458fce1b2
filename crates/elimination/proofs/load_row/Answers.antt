-- The entries of the row, one after another. Assumes nothing.
use mathlib.Core.Path.{◌≡◌}
use Prim.Native.Nat.{◌+◌}
use native.Mathlib.Omega.{arith}
use lib.ListN.{get_or}
use Rattle.kernel.proofs.Lent.{rewritten_on}
use Rattle.elimination.proofs.Loading.{row_in, row_go, place_of}
use Rattle.elimination.proofs.load_row.Goals as goal

pub overflow_add-end : goal.overflow_add-end
overflow_add-end c = omega (arith, row_in c.args.sound.sound c.requires.loadable c.requires.inside)

pub offset_bounds-chain-i : goal.offset_bounds-chain-i
offset_bounds-chain-i c = omega (arith, row_in c.args.sound.sound c.requires.loadable c.requires.inside)

pub bounds-chain-i : goal.bounds-chain-i
bounds-chain-i c = omega (arith, row_in c.args.sound.sound c.requires.loadable c.requires.inside)

pub offset_bounds-chain-i-2 : goal.offset_bounds-chain-i-2
offset_bounds-chain-i-2 c = omega (arith, row_in c.args.sound.sound c.requires.loadable c.requires.inside)

pub bounds-chain-i-2 : goal.bounds-chain-i-2
bounds-chain-i-2 c = omega (arith, row_in c.args.sound.sound c.requires.loadable c.requires.inside)

pub load_entry-requires : goal.load_entry-requires
load_entry-requires c =
    let s = c.args.sound.sound in
    let r = c.requires in
    let n = c.loop-p.invariant.same_order in
    let R = row_in s r.loadable r.inside in
    let low = c.loop-p.auto.p in
    let high = c.loop-p-test.true in
    record {
      inside = (omega (arith, n, r.inside), omega (arith, high, R), omega (arith, high, R), R.column _ low high);
      place_inside = λ b q. rw n (place_of s r.loadable r.inside low high b q).0;
    }

pub loop-p-preserved : goal.loop-p-preserved
loop-p-preserved c =
    let r = c.requires in
    let I = c.loop-p.invariant in
    rewritten_on I c.load_entry.ensures
    (row_go c.args.sound.sound r.loadable r.inside c.loop-p.auto.p c.loop-p-test.true I.holds (rw I.same_order at c.load_entry.ensures.holds))

pub returns : goal.returns
returns c =
    let a = c.args in
    let R = row_in a.sound.sound c.requires.loadable c.requires.inside in
    let q : c.loop-p.p ≡ get_or a.sound.chain.starts.now (get_or a.states.now a.a 0 + 1) 0 = omega (arith, c.loop-p.auto.p-end R.rises) in
    rw q at c.loop-p.invariant
