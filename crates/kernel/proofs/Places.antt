-- A store at a place, and places filled one after another. Assumes nothing.
use mathlib.Core.Path.{◌≡◌, ◌∙◌}
use Prim.Native.Nat.{ℕ, ◌<◌}
use lib.ListN.{length, length-set}
use Rattle.scaled.specs.declared.Scaled.{Scaled}
use Rattle.kernel.specs.Slices.{Slices}
use Rattle.kernel.specs.Kernel.{Kept, Sized}
use Rattle.kernel.specs.Inner.{Placed}
use Rattle.kernel.proofs.Cells.{stored, number_same, number_other}

pub placed_is : (at : ℕ) (x : Scaled) (s : Slices) → at < length s.m → at < length s.e → Placed at x s (stored s at x)
placed_is at x s hm he = record {
  kept = record { same_m = length-set s.m at x.m; same_e = length-set s.e at x.e };
  same = number_same s at x hm he;
  other = λ p d. number_other s at x p d;
}

pub placed_value : {at : ℕ} {x y : Scaled} {s s' : Slices} → Placed at x s s' → x ≡ y → Placed at y s s'
placed_value p q = record { kept = p.kept; same = p.same ∙ q; other = p.other }

pub still_sized : {n : ℕ} {s s' : Slices} → Sized n s → Kept s s' → Sized n s'
still_sized z k = record { size_m = k.same_m ∙ z.size_m; size_e = k.same_e ∙ z.size_e }
