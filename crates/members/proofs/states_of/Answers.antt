-- The loop's invariant: the states below i are listed. Assumes nothing.
use mathlib.Core.Path.{sym, ◌∙◌}
use native.Mathlib.Omega.{arith}
use borrow.Author.Rules.{rules}
use Rattle.members.proofs.Listing.{listing_none, listing_in, listing_out}
use Rattle.members.proofs.states_of.Goals as goal
use Rattle.members.proofs.states_of.Goals.{then-test_bit, else-test_bit}

pub loop-i-init : goal.loop-i-init
loop-i-init c = (search rules, search rules, listing_none _)

pub loop-i-preserved : goal.loop-i-preserved
loop-i-preserved c =
    let h = c.loop-i.invariant.2 in
    let b = sym c.test_bit.ensures in
    elim c.if-test_bit.branch [
      | then-test_bit w ↦ (
        omega arith,
        omega arith,
        rw (w.count-is, w.list-is, w.places-is) (listing_in (omega arith) (omega arith) h (b ∙ w.if-test_bit.true) _ _ (omega arith) (omega arith)),
      )
      | else-test_bit w ↦ (omega arith, omega arith, rw (w.count-is, w.list-is, w.places-is) (listing_out (omega arith) (omega arith) h (b ∙ w.if-test_bit.false)))
    ]
