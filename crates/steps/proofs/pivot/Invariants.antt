-- The loop's invariant: s is the sum of the entries (k, b), b from k + 1 up to, not including, j. Assumes nothing.
use Rattle.std.proofs.Common.{◌≡◌, ◌+◌, ◌-◌}
use Rattle.markov.specs.Elimination.{total}
use Rattle.kernel.specs.Numbers.{ops}
use Rattle.kernel.specs.Lent.{entry_of}
use Rattle.steps.proofs.pivot.Given as goal

abbrev pub invariant-loop-j : goal.invariant-loop-j
invariant-loop-j l = l.s ≡ total ops (l.j - (l.k + 1)) (λ i. entry_of l.x l.k (l.k + 1 + i))
