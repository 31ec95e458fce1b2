-- The loop's invariant: the shares below k stand. Assumes nothing.
use Rattle.std.proofs.Common.{◌≡◌, ℕ, ◌<◌}
use Rattle.kernel.specs.Slices.{number_at}
use Rattle.kernel.specs.Lent.{held, Stored}
use Rattle.kernel.specs.Kernel.{Kept}
use Rattle.weighing.specs.Weighing.{share_of}
use Rattle.weighing.proofs.share.Given as goal

abbrev pub invariant-loop-k : goal.invariant-loop-k
invariant-loop-k l = Stored (λ s s'. Kept s s' × ((i : ℕ) → i < l.k → number_at s' i ≡ share_of (held l.w) l.t i)) l.initial.s l.s
