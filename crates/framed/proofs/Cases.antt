-- Evaluated: a file of three bytes after its length in two, low byte first, with a byte left behind it; the end of an input; and files
-- handed on one after the other, one of them empty.
use Rattle.std.specs.Prelude.{Some, [], ◌∷◌, ◌≡◌, ◌+◌, length}
use Rattle.std.proofs.Common.{refl, arith}
use Rattle.framed.specs.declared.Next.TheVariants.{File, End}
use Rattle.framed.specs.Framed.{Fetched, Taken, NoFile, Handed}

pub low_byte_first : Taken (File 3) (Some (3 ∷ 0 ∷ 7 ∷ 8 ∷ 9 ∷ 5 ∷ [])) (Some (5 ∷ [])) (7 ∷ 8 ∷ 9 ∷ 1 ∷ [])
low_byte_first = (3, 0, refl, refl)

pub kept_beyond : Fetched (File 3) (2 ∷ 2 ∷ 2 ∷ 1 ∷ []) (7 ∷ 8 ∷ 9 ∷ 1 ∷ [])
kept_beyond = ((omega arith, refl), refl)

pub at_the_end : Taken End (Some []) (Some []) (2 ∷ 2 ∷ [])
at_the_end = (refl, refl)

-- the buffer has room for it
pub not_missed : NoFile 3 (Some (3 ∷ 0 ∷ 7 ∷ 8 ∷ 9 ∷ 5 ∷ [])) → ⊥
not_missed h = h 3 0 (7 ∷ 8 ∷ 9 ∷ []) (5 ∷ []) refl (omega arith) refl

-- the closure counts the bytes, from 1 on
pub two_files : Handed (λ f file next. next ≡ f + length file) 1 (Some (2 ∷ 0 ∷ 7 ∷ 8 ∷ 0 ∷ 0 ∷ [])) ((7 ∷ 8 ∷ []) ∷ [] ∷ []) 3 (Some [])
two_files = (3, Some (0 ∷ 0 ∷ []), (2, 0, refl, refl), refl, (3, Some [], (0, 0, refl, refl), refl, (refl, refl)))
