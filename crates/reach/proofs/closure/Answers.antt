-- The outer loop's invariant: paths by way of states below k. The inner one's: the step at k is done for the states below i. Assumes nothing.
use mathlib.Core.Path.{◌≡◌}
use native.Mathlib.Omega.{arith}
use Rattle.reach.proofs.StepLaws.{pass_none, pass_more, pass_all, beyond, close_more}
use borrow.Author.Rules.{rules}
use Rattle.reach.proofs.closure.Goals as goal

pub loop-k-init : goal.loop-k-init
loop-k-init c = (search rules, record { held = c.first_masks-masks.ensures })

pub loop-i-init : goal.loop-i-init
loop-i-init c = (c.loop-k.invariant.0, pass_none _ _ _)

pub loop-i-preserved : goal.loop-i-preserved
loop-i-preserved c = (
  search rules,
  pass_more c.loop-i.invariant.1 _ (omega (arith, c.loop-i.invariant.0, c.args.sound.sound.order.high, c.loop-i-test.true)) c.close_row.ensures,
)

pub loop-k-preserved : goal.loop-k-preserved
loop-k-preserved c =
    let e : c.loop-i.i ≡ c.args.sound.chain.order = omega arith in
    let h = c.loop-k.invariant.1 in
    (c.loop-i.invariant.0, close_more h _ c.loop-k-test.true (pass_all (rw e at c.loop-i.invariant.1) (beyond h)))

pub returns : goal.returns
returns c = let e : c.loop-k.k ≡ c.args.sound.chain.order = omega arith in (rw e at c.loop-k.invariant.1).held
