-- The loop's invariant: the weights from state k on stand. Assumes nothing.
use Rattle.std.proofs.Common.{◌≡◌, ℕ, ◌-◌, ◌≤◌, ◌<◌}
use Rattle.scaled.specs.declared.Scaled.{Scaled}
use Rattle.markov.specs.Elimination.{weights}
use Rattle.kernel.specs.Numbers.{ops}
use Rattle.kernel.specs.Slices.{number_at}
use Rattle.kernel.specs.Kernel.{Kept}
use Rattle.kernel.specs.Lent.{cells, Stored}
use Rattle.steps.specs.Inner.{Eliminated}
use Rattle.weighing.proofs.back.Given as goal

abbrev pub invariant-loop-k : goal.invariant-loop-k
invariant-loop-k l =
    let n = l.x.order in
    Stored (λ v v'. Kept v v' × ((a : ℕ → ℕ → Scaled) → Eliminated n (n - 1) a (cells l.x)
    → (i : ℕ) → l.k ≤ i → i < n → number_at v' i ≡ weights ops (n - 1) a i)) l.fn.w l.w
