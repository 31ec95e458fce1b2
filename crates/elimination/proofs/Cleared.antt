-- Slices that are equal, and slices of zeros, cleared whole or in their first places. Assumes nothing.
use mathlib.Core.List.{List, ◌++◌, append-nil}
use mathlib.Core.Path.{◌≡◌, ap, ◌∙◌}
use Prim.Native.Nat.{ℕ}
use native.Mathlib.Omega.{arith}
use lib.IntN.{pos}
use lib.ListN.{length, drop, replicate, drop_of_length-le}
use Rattle.kernel.specs.Slices.{Slices, pair}
use Rattle.kernel.specs.Kernel.{Sized}
use Rattle.elimination.specs.Inner.{FirstCleared}

-- two slices are equal if both parts are
pub both_equal : {s t : Slices} → s.m ≡ t.m → s.e ≡ t.e → s ≡ t
both_equal p q = λ i. record { m = p i; e = q i }

-- slices of k places that were cleared are zeros
pub cleared : {k x y : ℕ} {s : Slices} → (s.m ≡ replicate x 0) × (s.e ≡ replicate y (pos 0)) → x ≡ k → y ≡ k → s ≡ pair (replicate k 0) (replicate k (pos 0))
cleared h p q = both_equal (h.0 ∙ ap (λ (j : ℕ). replicate j 0) p) (h.1 ∙ ap (λ (j : ℕ). replicate j (pos 0)) q)

-- zeros in the first k of k places are zeros in all
all_first : {A : Type 0} (k : ℕ) (z : A) (l : List A) → length l ≡ k → replicate k z ++ drop k l ≡ replicate k z
all_first k z l h = rw (drop_of_length-le l {i = k} (omega arith)) (append-nil _)

-- slices of n places whose first k were cleared are zeros if k is n
pub cleared_first : {n k : ℕ} {s t : Slices} → Sized n s → FirstCleared k s t → k ≡ n → t ≡ pair (replicate n 0) (replicate n (pos 0))
cleared_first {k = k} {s = s} z h p =
    let m = all_first k 0 s.m (omega (arith, z.size_m)) in
    let e = all_first k (pos 0) s.e (omega (arith, z.size_e)) in
    cleared (h.zeros_m ∙ m, h.zeros_e ∙ e) p p
