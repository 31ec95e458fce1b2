-- The number of the state's place, or Zero, put at the state. Assumes nothing.
use mathlib.Core.Bool.{true}
use mathlib.Core.Path.{◌≡◌}
use native.Mathlib.Omega.{arith}
use borrow.Author.Rules.{rules}
use Rattle.kernel.proofs.Lent.{stored_so}
use Rattle.markov.proofs.Members.{size_le}
use Rattle.reach.specs.Reach.{stands}
use Rattle.members.proofs.Sizes.{size_next_in}
use Rattle.members.proofs.Spreading.{turn_in, turn_out}
use Rattle.members.proofs.spread_at.Goals as goal

pub overflow_sub-p : goal.overflow_sub-p
overflow_sub-p c = let a = c.args in omega (arith, size_next_in (stands a.set) a.i (cc))

pub load-number-requires : goal.load-number-requires
load-number-requires c =
    let a = c.args in
    let s = size_next_in (stands a.set) a.i (cc) in
    let l = size_le a.i (stands a.set) in
    omega arith

pub returns-then-test_bit : goal.returns-then-test_bit
returns-then-test_bit c =
    let a = c.args in
    let t : stands a.set a.i ≡ true = cc in
    stored_so c.place.ensures (turn_in c.place.ensures.holds t (omega (arith, size_next_in (stands a.set) a.i t)) (search rules))

pub returns-else-test_bit : goal.returns-else-test_bit
returns-else-test_bit c =
    let p = c.place-else-test_bit.ensures in
    stored_so p (turn_out p.holds (cc) (search rules) (search rules))
