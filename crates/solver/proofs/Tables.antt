-- Slices that hold numbers. Assumes nothing.
use mathlib.Core.List.{List}
use mathlib.Core.Path.{◌≡◌, ap, ◌∙◌}
use Prim.Native.Nat.{ℕ, ◌+◌, ◌≤◌, ◌<◌}
use native.Mathlib.Omega.{arith}
use lib.IntN.{pos}
use lib.ListN.{length, get_or, drop, get_or-append}
use lib.Seq.{sets, sets-eq}
use Rattle.basics.specs.Lists.{table}
use Rattle.basics.proofs.FillLaws.{table_is, table_length, table_at}
use Rattle.refusal.specs.Table.{Verdict, accepts}
use Rattle.scaled.specs.declared.Scaled.{Scaled}
use Rattle.kernel.specs.Slices.{Slices, number_at}
use Rattle.kernel.specs.Kernel.{Holds}
use Rattle.elimination.proofs.Cleared.{both_equal}
use Rattle.solver.specs.Lent.{Places}
use Rattle.solver.specs.Solve.{numbers, after_in}

-- slices that hold f 0 .. f (n - 1) are the table of those numbers
pub numbers_are : {n : ℕ} {f : ℕ → Scaled} {s : Slices} → Holds n f s → s ≡ numbers n f
unfolding number_at
numbers_are {n} {f} {s} h =
    both_equal
    (table_is 0 n s.m (λ i. (f i).m) h.sized.size_m (λ i l. ap (λ (x : Scaled). x.m) (h.at i l)))
    (table_is (pos 0) n s.e (λ i. (f i).e) h.sized.size_e (λ i l. ap (λ (x : Scaled). x.e) (h.at i l)))

-- a slice begins with the table that was stored at its front
begins : {A : Type 0} (nought : A) (n : ℕ) (f : ℕ → A) (old new : List A) → n ≤ length old → new ≡ sets old 0 (table n f)
    → (i : ℕ) → i < n → get_or new i nought ≡ f i
begins nought n f old new room h i l =
    ap (λ x. get_or x i nought) (h ∙ sets-eq (table n f) old 0 (omega (arith, table_length nought n f)))
    ∙ get_or-append (table n f) (drop (0 + length (table n f)) old) nought i (omega (arith, table_length nought n f))
    ∙ table_at nought n f i l

-- the numbers in two result slices after an accepted solving
pub numbers_begin : (n : ℕ) (f : ℕ → Scaled) (v : Verdict ℕ) {K : ℕ} (old : Slices) {new : Slices} → Places n old → v ≡ accepts K
    → new ≡ after_in v old (numbers n f) → (i : ℕ) → i < n → number_at new i ≡ f i
unfolding number_at
numbers_begin n f v {K} old {new} room q h i l =
    let t : new ≡ after_in (accepts K) old (numbers n f) = rw q at h in
    let x = begins 0 n (λ i. (f i).m) old.m new.m room.for_m (ap (λ (s : Slices). s.m) t) i l in
    let y = begins (pos 0) n (λ i. (f i).e) old.e new.e room.for_e (ap (λ (s : Slices). s.e) t) i l in
    λ k. record { m = x k; e = y k }
