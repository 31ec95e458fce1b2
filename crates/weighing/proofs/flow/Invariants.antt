-- The loop's invariant: s is the sum of the terms of the states from k + 1 up to, not including, j. Assumes nothing.
use Rattle.std.proofs.Common.{◌≡◌, ◌+◌, ◌-◌}
use Rattle.markov.specs.Elimination.{total}
use Rattle.kernel.specs.Numbers.{ops, times}
use Rattle.kernel.specs.Slices.{number_at}
use Rattle.kernel.specs.Lent.{held, entry_of}
use Rattle.weighing.proofs.flow.Given as goal

abbrev pub invariant-loop-j : goal.invariant-loop-j
invariant-loop-j l = l.s ≡ total ops (l.j - (l.k + 1)) (λ i. times (number_at (held l.w) (l.k + 1 + i)) (entry_of l.x (l.k + 1 + i) l.k))
