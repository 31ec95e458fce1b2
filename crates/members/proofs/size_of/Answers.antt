-- The loop's invariant: r of the states below `state` are in the set. Assumes nothing.
use mathlib.Core.Path.{sym, ◌∙◌}
use native.Mathlib.Omega.{arith}
use borrow.Author.Rules.{rules}
use Rattle.reach.specs.Reach.{stands}
use Rattle.members.proofs.Sizes.{size_none, size_next_in, size_next_out}
use Rattle.members.proofs.size_of.Goals as goal
use Rattle.members.proofs.size_of.Goals.{then-test_bit, else-test_bit}

pub loop-state-init : goal.loop-state-init
loop-state-init c = (search rules, search rules, sym (size_none _))

pub loop-state-preserved : goal.loop-state-preserved
loop-state-preserved c =
    let set = stands c.args.set in
    let i = c.loop-state.state in
    let b = sym c.test_bit.ensures in
    elim c.if-test_bit.branch [
      | then-test_bit w ↦ (omega arith, omega arith, omega (arith, size_next_in set i (b ∙ w.if-test_bit.true)))
      | else-test_bit w ↦ (omega arith, omega arith, omega (arith, size_next_out set i (b ∙ w.if-test_bit.false)))
    ]
