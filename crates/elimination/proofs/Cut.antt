-- Slices lent in part: the first k places go to a call and come back, the others stay. Assumes nothing.
use mathlib.Core.List.{List, ◌++◌}
use mathlib.Core.Path.{◌≡◌, sym}
use Prim.Native.Nat.{ℕ, ◌≤◌, ◌<◌}
use native.Mathlib.Omega.{arith}
use lib.IntN.{pos}
use lib.ListN.{length, take, drop, length-append, length-drop, get_or-append}
use lib.Seq.{length-take-le}
use Rattle.kernel.specs.Slices.{Slices, pair, number_at}
use Rattle.kernel.specs.Kernel.{Sized}

-- what is lent
abbrev pub cut : ℕ → Slices → Slices
cut k s = pair (take k s.m) (take k s.e)

pub cut_long : {A : Type 0} (k : ℕ) (l : List A) → k ≤ length l → k ≡ length (take k l)
cut_long k l h = sym (length-take-le k l h)

-- what came back as s, and the rest of the old slices
abbrev pub joined : ℕ → Slices → Slices → Slices
joined k s old = pair (s.m ++ drop k old.m) (s.e ++ drop k old.e)

joined_long : {A : Type 0} (k n : ℕ) (s old : List A) → k ≤ n → length s ≡ k → length old ≡ n → length (s ++ drop k old) ≡ n
joined_long k n s old l p q = omega (arith, length-append s (drop k old), length-drop k old)

pub joined_sized : {k n : ℕ} {s old : Slices} → k ≤ n → Sized k s → Sized n old → Sized n (joined k s old)
joined_sized {k} {n} {s} {old} l p q = record {
  size_m = joined_long k n s.m old.m l p.size_m q.size_m;
  size_e = joined_long k n s.e old.e l p.size_e q.size_e;
}

pub joined_at : {k : ℕ} {s : Slices} (old : Slices) → Sized k s → (p : ℕ) → p < k → number_at (joined k s old) p ≡ number_at s p
unfolding number_at
joined_at {k} {s} old z p l =
    let x = get_or-append s.m (drop k old.m) 0 p (omega (arith, z.size_m)) in
    let y = get_or-append s.e (drop k old.e) (pos 0) p (omega (arith, z.size_e)) in
    λ i. record { m = x i; e = y i }
