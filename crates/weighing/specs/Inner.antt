-- What back substitution asks and leaves.
use Rattle.std.specs.Prelude.{ℕ, zero, ◌+◌, ◌-◌, ◌<◌}
use Rattle.scaled.specs.declared.Scaled.{Scaled}
use Rattle.markov.specs.Elimination.{total}
use Rattle.markov.specs.Promises.{AllFit}
use Rattle.kernel.specs.Numbers.{ops, Fit, times, divided_by}
use Rattle.kernel.specs.Slices.{Slices, number_at, entry_at}
use Rattle.kernel.specs.Kernel.{Sized, SumsFit}
use Rattle.steps.specs.Inner.{Eliminated}

-- the sum, j rising from k + 1, of weight j times entry (j, k)
unfoldable pub flow_at : ℕ → Slices → Slices → ℕ → Scaled
flow_at n s w k = total ops (n - (k + 1)) (λ j. times (number_at w (k + 1 + j)) (entry_at n s (k + 1 + j) k))

-- weight k: its flow divided once by the pivot, which stands at (k, k)
abbrev pub weight_at : ℕ → Slices → Slices → ℕ → Scaled
weight_at n s w k = divided_by (flow_at n s w k) (entry_at n s k k)

-- every number that weight k meets is a scaled number
pub record FlowFits (n : ℕ) (s w : Slices) (k : ℕ) : Type 0 where
  pub sums : SumsFit (n - (k + 1)) (λ j. times (number_at w (k + 1 + j)) (entry_at n s (k + 1 + j) k))
  pub weight : Fit (weight_at n s w k)

-- what back substitution asks: the slices hold what the steps left of a matrix x for which every number met is a scaled number
pub record Backed (n : ℕ) (s w : Slices) : Type 0 where
  pub sized : Sized n w
  pub some : zero < n
  pub x : ℕ → ℕ → Scaled
  pub done : Eliminated n (n - 1) x s
  pub fits : AllFit ops Fit (n - 1) x
