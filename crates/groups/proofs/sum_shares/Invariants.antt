-- The loop's invariant: each group has the sum of the shares of its states below s.
use Rattle.kernel.specs.Slices.{pair, number_at}
use Rattle.kernel.specs.Kernel.{Holds}
use Rattle.kernel.specs.Lent.{Stored}
use Rattle.group_table.specs.Sums.{group_share}
use Rattle.groups.proofs.sum_shares.Given as goal

abbrev pub invariant-loop-s : goal.invariant-loop-s
invariant-loop-s l = Stored (λ _ t. Holds 16 (group_share l.table l.s (number_at (pair l.sm l.se))) t) l.initial.sums l.sums
