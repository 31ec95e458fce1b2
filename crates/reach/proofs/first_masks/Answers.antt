use Prim.Native.Nat.{◌<◌, ◌+◌}
use mathlib.Core.Path.{◌≡◌, refl}
use native.Mathlib.Omega.{arith}
use Rattle.chain.proofs.SoundLaws.{start_within}
use Rattle.reach.proofs.StepLaws.{first_none, first_more}
use borrow.Author.Rules.{rules}
use Rattle.reach.proofs.first_masks.Goals as goal

pub loop-i-init : goal.loop-i-init
loop-i-init c = (refl, first_none _)

pub row_mask-requires : goal.row_mask-requires
row_mask-requires c =
    let s = c.args.sound.sound in
    let i = c.loop-i.i in
    let l : i < c.args.sound.chain.order = c.loop-i-test.true in
    let e = start_within s.starts_rule (i + 1) (omega arith) in record {
      bounds = (omega (arith, s.order.high), s.starts_rule.rises i l, e, omega (arith, s.lengths));
      columns_low = λ p a b. omega (arith, (s.columns_rule.entry i p l a b).below, s.order.high);
    }

pub loop-i-preserved : goal.loop-i-preserved
loop-i-preserved c = (
  search rules,
  first_more c.loop-i.invariant.1 _ (omega (arith, c.loop-i.invariant.0, c.args.sound.sound.order.high, c.loop-i-test.true)) c.row_mask.ensures,
)

pub returns : goal.returns
returns c = let e : c.loop-i.i ≡ c.args.sound.chain.order = omega arith in (rw e at c.loop-i.invariant.1).held
