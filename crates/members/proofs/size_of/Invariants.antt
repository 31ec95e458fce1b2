-- The loop's invariant: r of the states below `state` are in the set. Assumes nothing.
use mathlib.Core.Path.{◌≡◌}
use Prim.Native.Nat.{◌-◌, ◌≤◌}
use Rattle.markov.specs.Closed.{size}
use Rattle.reach.specs.Reach.{stands}
use Rattle.members.proofs.size_of.Given as goal

abbrev pub invariant-loop-state : goal.invariant-loop-state
invariant-loop-state l = (l.state ≤ l.n) × (l.r ≤ l.state) × (l.r ≡ size l.state (stands l.set))

abbrev pub decreases-loop-state : goal.decreases-loop-state
decreases-loop-state l = l.n - l.state
