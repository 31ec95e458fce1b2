-- A text stored in a list: two texts one after the other, and what is stored from the first place on. Assumes nothing.
use Prim.Native.Nat.{ℕ, suc, ◌+◌, ◌≤◌}
use mathlib.Core.List.{List, [], ◌∷◌, ◌++◌}
use mathlib.Core.Path.{◌≡◌, ap, ◌∙◌}
use native.Mathlib.Omega.{arith}
use lib.ListN.{length, take, drop, set}
use lib.Seq.{sets, sets-eq, take_at}

-- two texts, one after the other, are their join
pub sets_append : (l : List ℕ) (i : ℕ) (s t : List ℕ) → sets l i (s ++ t) ≡ sets (sets l i s) (i + length s) t
sets_append l i [] t = let e : i + 0 ≡ i = omega arith in rw e
sets_append l i (a ∷ s) t =
    let e : i + suc (length s) ≡ suc i + length s = omega arith in
    rw e (sets_append (set l i a) (suc i) s t)

-- ---- what is stored from the first place on

pub take_sets : (l vs : List ℕ) (k : ℕ) → length vs ≡ k → k ≤ length l → take k (sets l 0 vs) ≡ vs
take_sets l vs k e h = ap (take k) (sets-eq vs l 0 (omega arith)) ∙ take_at vs (drop (0 + length vs) l) k e
