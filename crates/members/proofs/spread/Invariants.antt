-- The loop's invariant: the states from i on have their numbers, and `left` states of the set are below them. Assumes nothing.
use Rattle.std.proofs.Common.{length}
use Rattle.reach.specs.Reach.{stands}
use Rattle.kernel.specs.Lent.{Stored}
use Rattle.members.proofs.Spreading.{SpreadFrom}
use Rattle.members.proofs.spread.Given as goal

abbrev pub invariant-loop-i : goal.invariant-loop-i
invariant-loop-i l = Stored (SpreadFrom (length l.initial.x.m.now) (stands l.set) l.i l.left) l.initial.x l.x
