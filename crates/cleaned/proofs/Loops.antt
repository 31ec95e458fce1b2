-- One turn of the loops that count and put what is kept. Assumes nothing.
use Prim.Native.Nat.{ℕ, zero, suc, ◌+◌, ◌-◌, ◌<◌, ◌≤◌}
use mathlib.Core.List.{List, [], ◌∷◌, map}
use mathlib.Core.Path.{◌≡◌, refl, ap, ◌∙◌}
use native.Mathlib.Omega.{arith}
use native.Mathlib.Numerals.{add-one}
use lib.ListN.{length, get_or, set, take, drop, length-set}
use lib.Seq.{sets, drop-cons, take-add}
use lib.Dec.{ltb}
use mathlib.Core.Bool.{cond}
use Rattle.std.specs.Prelude.{count_by}
use Rattle.std.proofs.lemmas.Bool.{lt-ltb}
use Rattle.std.proofs.lemmas.List.Sums.{sum_by-cons}
use Rattle.cleaned.specs.Cleaned.{kept, positives, new_place}
use Rattle.cleaned.specs.Inner.{PutKept, PutStarts}
use Rattle.cleaned.proofs.KeptLaws.{positives_append}

-- ---- what is kept from place p on

kept_positive : (v r : ℕ) (vs rs : List ℕ) → 0 < r → kept (v ∷ vs) (r ∷ rs) ≡ v ∷ kept vs rs
kept_positive v zero vs rs h = absurd (omega arith)
kept_positive v (suc r) vs rs h = refl

kept_zero : (v r : ℕ) (vs rs : List ℕ) → r ≡ 0 → kept (v ∷ vs) (r ∷ rs) ≡ kept vs rs
kept_zero v r vs rs e = rw e

module _ (values rates : List ℕ) (p : ℕ) (e : length values ≡ length rates) (l : p < length rates) where
  cut : (l : List ℕ) → p < length l → drop p l ≡ get_or l p 0 ∷ drop (p + 1) l
  cut l h = rw add-one (drop-cons l p 0 h)

  kept_hit : 0 < get_or rates p 0 → kept (drop p values) (drop p rates) ≡ get_or values p 0 ∷ kept (drop (p + 1) values) (drop (p + 1) rates)
  kept_hit h = rw (cut values (omega arith), cut rates l) (kept_positive (get_or values p 0) (get_or rates p 0) (drop (p + 1) values) (drop (p + 1) rates) h)

  kept_miss : get_or rates p 0 ≡ 0 → kept (drop p values) (drop p rates) ≡ kept (drop (p + 1) values) (drop (p + 1) rates)
  kept_miss h = rw (cut values (omega arith), cut rates l) (kept_zero (get_or values p 0) (get_or rates p 0) (drop (p + 1) values) (drop (p + 1) rates) h)

-- ---- the count

-- a count of what is positive is the number of what is kept
pub count_is : (rates : List ℕ) → count_by (λ rate. ltb 0 rate) rates ≡ positives rates
count_is [] = refl
count_is (zero ∷ rates) = count_is rates
count_is (suc rate ∷ rates) = sum_by-cons (λ rate. cond (ltb 0 rate) 1 0) (suc rate) rates ∙ rw (lt-ltb 0 (suc rate) (omega arith)) (omega (arith, count_is rates))

-- ---- what is kept, put from the first place on

pub record Keeping (values rates out₀ out : List ℕ) (p q : ℕ) : Type 0 where
  pub turn : p ≤ length rates
  pub few : q ≤ p
  pub here : q + length (kept (drop p values) (drop p rates)) ≡ length (kept values rates)
  pub same : length out ≡ length out₀
  pub to : sets out₀ 0 (kept values rates) ≡ sets out q (kept (drop p values) (drop p rates))

module _ (values rates out₀ : List ℕ) (a : PutKept values rates out₀) where
  module _ (out : List ℕ) (p q : ℕ) (f : Keeping values rates out₀ out p q) where
    pub keep_hit : p < length rates → 0 < get_or rates p 0 → Keeping values rates out₀ (set out q (get_or values p 0)) (p + 1) (q + 1)
    keep_hit l h =
        let e = kept_hit values rates p a.lengths l h in
        record {
          turn = omega arith;
          few = omega (arith, f.few);
          here = omega (arith, f.here, ap length e);
          same = length-set out q (get_or values p 0) ∙ f.same;
          to = f.to ∙ rw (e, add-one q);
        }

    pub keep_miss : p < length rates → get_or rates p 0 ≡ 0 → Keeping values rates out₀ out (p + 1) q
    keep_miss l h =
        let e = kept_miss values rates p a.lengths l h in
        record {
          turn = omega arith;
          few = omega (arith, f.few);
          here = rw e at f.here;
          same = f.same;
          to = rw e at f.to;
        }

-- the same at equal values, as where the ways of a branch meet
pub moved : {values rates out₀ out out' : List ℕ} {p q q' : ℕ} → out' ≡ out → q' ≡ q → Keeping values rates out₀ out p q → Keeping values rates out₀ out' p q'
moved e₁ e₂ f = rw (e₁, e₂) f

-- ---- the starts, counted again

pub record Recounting (starts rates out₀ out : List ℕ) (row p count : ℕ) : Type 0 where
  pub up : row < length starts → p ≤ get_or starts row 0
  pub counted : count ≡ new_place rates p
  pub same : length out ≡ length out₀
  pub to : sets out₀ 0 (map (new_place rates) starts) ≡ sets out row (map (new_place rates) (drop row starts))

-- the positive rates before b: those before a, and those from a on
pub recount : (rates : List ℕ) (a b : ℕ) → a ≤ b → new_place rates b ≡ new_place rates a + positives (take (b - a) (drop a rates))
recount rates a b l =
    let e : a + (b - a) ≡ b = omega arith in
    ap positives (rw e at (take-add a (b - a) rates)) ∙ positives_append (take a rates) (take (b - a) (drop a rates))

module _ (starts rates out₀ : List ℕ) (a : PutStarts starts rates out₀) (out : List ℕ) (row p count : ℕ) (f : Recounting starts rates out₀ out row p count) where
  pub recount_next : row < length starts → (v count' : ℕ) → v ≡ new_place rates (get_or starts row 0) → count' ≡ new_place rates (get_or starts row 0)
      → Recounting starts rates out₀ (set out row v) (row + 1) (get_or starts row 0) count'
  recount_next l v count' e e' =
      record {
        up = λ m. a.rises row m;
        counted = e';
        same = length-set out row v ∙ f.same;
        to = f.to ∙ rw (drop-cons starts row 0 l, add-one row, e);
      }
