-- The loop's invariant: s is the sum of the weights below k. Assumes nothing.
use Rattle.std.proofs.Common.{◌≡◌}
use Rattle.markov.specs.Elimination.{total}
use Rattle.kernel.specs.Numbers.{ops}
use Rattle.kernel.specs.Slices.{number_at}
use Rattle.kernel.specs.Lent.{held}
use Rattle.weighing.proofs.total_weight.Given as goal

abbrev pub invariant-loop-k : goal.invariant-loop-k
invariant-loop-k l = l.s ≡ total ops l.k (number_at (held l.w))
