-- How many states of a set are below the next state. Assumes nothing.
use mathlib.Core.Bool.{Bool, true, false}
use mathlib.Core.Path.{◌≡◌}
use Prim.Native.Nat.{ℕ, ◌+◌}
use native.Mathlib.Numerals.{add-one}
use native.Mathlib.Omega.{arith}
use Rattle.basics.specs.Below.{count}
use Rattle.basics.proofs.SumLaws.{sum_last, sum_zero}
use Rattle.markov.specs.Closed.{size}

pub size_none : (set : ℕ → Bool) → size 0 set ≡ 0
unfolding size
size_none set = sum_zero (λ i. count (set i))

pub size_next_in : (set : ℕ → Bool) (i : ℕ) → set i ≡ true → size (i + 1) set ≡ size i set + 1
unfolding size count
size_next_in set i t = rw (add-one i, sum_last i (λ i. count (set i)), t)

pub size_next_out : (set : ℕ → Bool) (i : ℕ) → set i ≡ false → size (i + 1) set ≡ size i set
unfolding size count
size_next_out set i t = rw (add-one i, sum_last i (λ i. count (set i)), t) (omega arith)
