-- The second map of a row and the rates that it marks: which columns it holds, read and written. Assumes nothing.
use Prim.Native.Nat.{ℕ, ◌+◌, ◌<◌, ◌≤◌}
use mathlib.Core.Bool.{Bool, true, false, cond, ◌&&◌, false≢true}
use mathlib.Core.List.{List, [], ◌∷◌}
use mathlib.Core.Path.{◌≡◌, refl, sym, ap, ◌∙◌}
use native.Mathlib.Omega.{arith}
use lib.Dec.{eqb, ltb}
use lib.ListN.{length}
use Rattle.basics.proofs.BoolLaws.{and_no}
use borrow.Author.Tests.{eqb-true, eqb-false}
use Rattle.layout.specs.declared.Form.TheVariants.{One, Two}
use Rattle.layout.specs.File.{has, short_columns}
use Rattle.layout.proofs.Rates.{MarkedBy, none, more}
use Rattle.packing.proofs.MapLaws.{has_here, has_there}
use Rattle.storage.proofs.Holding.{Rising, none, more}

-- a short column is a column
pub short_has : (j : ℕ) (columns rates : List ℕ) → has j (short_columns columns rates) ≡ true → has j columns ≡ true
short_has j [] rates h = h
short_has j (c ∷ cs) [] h = absurd (false≢true h)
short_has j (c ∷ cs) (r ∷ rs) h = go (eqb c j) refl (ltb r 65536) h (short_has j cs rs)
  where
    go : (t : Bool) → eqb c j ≡ t → (b : Bool) → has j (cond b (c ∷ short_columns cs rs) (short_columns cs rs)) ≡ true
        → (has j (short_columns cs rs) ≡ true → has j cs ≡ true) → has j (c ∷ cs) ≡ true
    go true t b e later = has_here j c cs (eqb-true c j t)
    go false t true e later = has_there j c cs (eqb-false c j t) ∙ later (sym (has_there j c (short_columns cs rs) (eqb-false c j t)) ∙ e)
    go false t false e later = has_there j c cs (eqb-false c j t) ∙ later e

-- below all columns there is none
short_low : {n lo : ℕ} {cs : List ℕ} → Rising n lo cs → (rs : List ℕ) (i : ℕ) → i < lo → has i (short_columns cs rs) ≡ false
short_low none rs i h = refl
short_low (more {c = c} {cs = cs} a b r) [] i h = refl
short_low (more {c = c} {cs = cs} a b r) (x ∷ rs) i h = go (ltb x 65536) (short_low r rs i (omega arith))
  where
    go : (t : Bool) → has i (short_columns cs rs) ≡ false → has i (cond t (c ∷ short_columns cs rs) (short_columns cs rs)) ≡ false
    go true e = has_there i c (short_columns cs rs) (λ (q : c ≡ i). omega arith) ∙ e
    go false e = e

-- ---- written and read: the marks are those of the rates

pub marked_one : (columns rates : List ℕ) → length rates ≡ length columns → MarkedBy One (λ _. false) columns rates
marked_one [] [] e = none
marked_one [] (r ∷ rs) e = absurd (omega arith)
marked_one (c ∷ cs) [] e = absurd (omega arith)
marked_one (c ∷ cs) (r ∷ rs) e = more refl (marked_one cs rs (omega arith))

pub marked_two : (n lo : ℕ) (marks : ℕ → Bool) (columns rates : List ℕ) → Rising n lo columns → length rates ≡ length columns
    → ((j : ℕ) → lo ≤ j → j < n → marks j ≡ has j (short_columns columns rates)) → MarkedBy Two marks columns rates
marked_two n lo marks [] [] r e h = none
marked_two n lo marks [] (x ∷ rs) r e h = absurd (omega arith)
marked_two n lo marks (c ∷ cs) [] r e h = absurd (omega arith)
marked_two n lo marks (c ∷ cs) (x ∷ rs) (more a b r) e h =
    more (h c a b ∙ here (ltb x 65536))
    (marked_two n (c + 1) marks cs rs r (omega arith) (λ j p q. h j (omega arith) q ∙ later j p (ltb x 65536)))
  where
    here : (t : Bool) → has c (cond t (c ∷ short_columns cs rs) (short_columns cs rs)) ≡ t
    here true = has_here c c (short_columns cs rs) refl
    here false = short_low r rs c (omega arith)

    later : (j : ℕ) → c + 1 ≤ j → (t : Bool) → has j (cond t (c ∷ short_columns cs rs) (short_columns cs rs)) ≡ has j (short_columns cs rs)
    later j p true = has_there j c (short_columns cs rs) (λ (q : c ≡ j). omega arith)
    later j p false = refl

-- ---- read and written: the short columns are those that are marked

pub has_marked : (j : ℕ) (marks : ℕ → Bool) {columns rates : List ℕ} → MarkedBy Two marks columns rates → has j (short_columns columns rates) ≡ (has j columns && marks j)
has_marked j marks none = refl
has_marked j marks (more {column} {rate} {columns} {rates} e m) = go (eqb column j) refl (ltb rate 65536) e (has_marked j marks m)
  where
    go : (t : Bool) → eqb column j ≡ t → (b : Bool) → marks column ≡ b → has j (short_columns columns rates) ≡ (has j columns && marks j)
        → has j (cond b (column ∷ short_columns columns rates) (short_columns columns rates)) ≡ (has j (column ∷ columns) && marks j)
    go true t true e ih =
        let q = eqb-true column j t in
        has_here j column (short_columns columns rates) q ∙ rw (has_here j column columns q) (sym (ap marks (sym q) ∙ e))
    go true t false e ih =
        let q = eqb-true column j t in
        let z : marks j ≡ false = ap marks (sym q) ∙ e in
        ih ∙ and_no (has j columns) (marks j) z ∙ sym (and_no (has j (column ∷ columns)) (marks j) z)
    go false t true e ih =
        let q = eqb-false column j t in
        has_there j column (short_columns columns rates) q ∙ ih ∙ rw (has_there j column columns q)
    go false t false e ih = let q = eqb-false column j t in ih ∙ rw (has_there j column columns q)
