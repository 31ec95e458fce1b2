-- A file that was fetched, as the first of a row of files; and what follows where none was. Assumes nothing.
use Rattle.std.proofs.Common.{ℕ, ◌≡◌, Option, List, length, take, sym, ◌∙◌, subst, refl}
use Rattle.std.proofs.Math.Seq.{take-length}
use Rattle.framed.specs.declared.Next.{Next}
use Rattle.framed.specs.declared.Next.TheVariants.{File, Cut, End}
use Rattle.framed.specs.Framed.{Fetched, IsPrefixLen, Taken, Missed, NoFile}

-- the bytes at the front of a buffer are taken for themselves
pub taken_alone : (r : Next) (n : ℕ) (old new : Option (List ℕ)) (before buffer : List ℕ) → r ≡ File n → Fetched r before buffer → Taken r old new buffer
    → Taken (File (length (take n buffer))) old new (take n buffer)
taken_alone r n old new before buffer e f t =
    let whole : IsPrefixLen n buffer = (subst (λ x. Fetched x before buffer) e f).0 in
    let given : Taken (File n) old new buffer = subst (λ x. Taken x old new buffer) e t in
    (given.0, given.1, sym whole.1 ∙ given.2, rw take-length given.3)

pub none_follows : (r : Next) (most : ℕ) (left : Option (List ℕ)) → ((n : ℕ) → r ≡ File n → ⊥) → Missed r most left → NoFile most left
none_follows (File n) most left other m = absurd (other n refl)
none_follows Cut most left other m = m
none_follows End most left other m = m
