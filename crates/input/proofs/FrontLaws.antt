-- An answer at the front of a buffer that has room for the longest, and none in a shorter one. Assumes nothing.
use Rattle.std.proofs.Common.{ℕ, Bool, true, false, List, ◌≡◌, ◌≤◌, cond, length, ap, arith, refl}
use Rattle.std.proofs.Math.Dec.{leb}
use Rattle.std.proofs.Math.Seq.{length-sets}
use Rattle.std.proofs.lemmas.Bool.{leb-true}
use Rattle.std.proofs.lemmas.List.Edits.{sets}

-- it is no longer than the buffer
pub fits : (longest n : ℕ) (out after text : List ℕ) → after ≡ cond (leb longest (length out)) (sets out 0 text) out
    → n ≡ cond (leb longest (length out)) (length text) 0 → n ≤ longest → n ≤ length after
fits longest n out after text out_is count_is within = by_room (leb longest (length out)) (leb-true longest (length out)) out_is count_is
  where
    by_room : (room : Bool) → (room ≡ true → longest ≤ length out) → after ≡ cond room (sets out 0 text) out → n ≡ cond room (length text) 0 → n ≤ length after
    by_room true suffices is count = let h : longest ≤ length out = suffices refl in omega (arith, ap length is, length-sets out 0 text)
    by_room false suffices is count = omega arith
