-- The loop's invariant: the states below i are listed. Assumes nothing.
use Prim.Native.Nat.{◌-◌, ◌≤◌}
use Rattle.reach.specs.Reach.{stands}
use Rattle.members.proofs.Listing.{ListedTo}
use Rattle.members.proofs.states_of.Given as goal

abbrev pub invariant-loop-i : goal.invariant-loop-i
invariant-loop-i l = (l.i ≤ l.n) × (l.count ≤ l.i) × ListedTo l.n (stands l.set) l.i l.count l.list l.places

abbrev pub decreases-loop-i : goal.decreases-loop-i
decreases-loop-i l = l.n - l.i
