-- What is kept of a list and of the rates: how many, from which places, and sums over them. Assumes nothing.
use Prim.Native.Nat.{ℕ, zero, suc, ◌+◌, ◌<◌, ◌≤◌, suc-le-suc}
use mathlib.Core.Bool.{Bool, true, false, cond}
use mathlib.Core.List.{List, [], ◌∷◌, ◌++◌}
use mathlib.Core.Path.{◌≡◌, refl, ap}
use native.Mathlib.Decide.{dec_lt}
use native.Mathlib.Omega.{arith}
use lib.Dec.{eqb}
use lib.ListN.{length, get_or}
use Rattle.basics.specs.Sum.{sum}
use Rattle.chain.specs.Meaning.{adds}
use Rattle.cleaned.specs.Cleaned.{kept, positives, new_place}

-- ---- how many

pub kept_length : (values rates : List ℕ) → length values ≡ length rates → length (kept values rates) ≡ positives rates
kept_length [] [] e = refl
kept_length [] (r ∷ rs) e = absurd (omega arith)
kept_length (v ∷ vs) [] e = absurd (omega arith)
kept_length (v ∷ vs) (zero ∷ rs) e = kept_length vs rs (omega arith)
kept_length (v ∷ vs) (suc r ∷ rs) e = ap suc (kept_length vs rs (omega arith))

pub kept_fewer : (values rates : List ℕ) → length (kept values rates) ≤ length values
kept_fewer [] rates = omega arith
kept_fewer (v ∷ vs) [] = omega arith
kept_fewer (v ∷ vs) (zero ∷ rs) = omega (arith, kept_fewer vs rs)
kept_fewer (v ∷ vs) (suc r ∷ rs) = omega (arith, kept_fewer vs rs)

-- ---- before a place

pub place_mono : (rates : List ℕ) (p q : ℕ) → p ≤ q → new_place rates p ≤ new_place rates q
place_mono rates zero q l = omega arith
place_mono rates (suc p) zero l = absurd (omega arith)
place_mono [] (suc p) (suc q) l = omega arith
place_mono (zero ∷ rs) (suc p) (suc q) l = place_mono rs p q (omega arith)
place_mono (suc r ∷ rs) (suc p) (suc q) l = suc-le-suc (place_mono rs p q (omega arith))

-- a positive rate counts for all later places
place_more : (rates : List ℕ) (p q : ℕ) → 0 < get_or rates p 0 → p < q → new_place rates p < new_place rates q
place_more rates p zero h l = absurd (omega arith)
place_more [] p (suc q) h l = absurd (omega arith)
place_more (zero ∷ rs) zero (suc q) h l = absurd (omega arith)
place_more (suc r ∷ rs) zero (suc q) h l = omega arith
place_more (zero ∷ rs) (suc p) (suc q) h l = place_more rs p q h (omega arith)
place_more (suc r ∷ rs) (suc p) (suc q) h l = suc-le-suc (place_more rs p q h (omega arith))

-- so places can be compared by what they count
pub place_less : (rates : List ℕ) (p q : ℕ) → new_place rates p < new_place rates q → p < q
place_less rates p q h =
    elim (dec_lt p q) [
      | yes l ↦ l
      | no d ↦ absurd (omega (arith, place_mono rates q p (omega arith)))
    ]

pub place_le : (rates : List ℕ) (p q : ℕ) → 0 < get_or rates q 0 → new_place rates p ≤ new_place rates q → p ≤ q
place_le rates p q h k =
    elim (dec_lt q p) [
      | yes l ↦ absurd (omega (arith, place_more rates q p h l))
      | no d ↦ omega arith
    ]

pub place_within : (p : ℕ) (rates : List ℕ) → new_place rates p ≤ p
place_within zero rates = omega arith
place_within (suc p) [] = omega arith
place_within (suc p) (zero ∷ rs) = omega (arith, place_within p rs)
place_within (suc p) (suc r ∷ rs) = omega (arith, place_within p rs)

pub positives_append : (s t : List ℕ) → positives (s ++ t) ≡ positives s + positives t
positives_append [] t = omega arith
positives_append (zero ∷ s) t = positives_append s t
positives_append (suc r ∷ s) t = omega (arith, positives_append s t)

-- ---- the place that a kept entry comes from

kept_at : (values rates : List ℕ) (p : ℕ) → length values ≡ length rates → 0 < get_or rates p 0 → get_or (kept values rates) (new_place rates p) 0 ≡ get_or values p 0
kept_at [] [] p e h = absurd (omega arith)
kept_at [] (r ∷ rs) p e h = absurd (omega arith)
kept_at (v ∷ vs) [] p e h = absurd (omega arith)
kept_at (v ∷ vs) (zero ∷ rs) zero e h = absurd (omega arith)
kept_at (v ∷ vs) (suc r ∷ rs) zero e h = refl
kept_at (v ∷ vs) (zero ∷ rs) (suc p) e h = kept_at vs rs p (omega arith) h
kept_at (v ∷ vs) (suc r ∷ rs) (suc p) e h = kept_at vs rs p (omega arith) h

pub record Came (rates : List ℕ) (q : ℕ) : Type 0 where
  pub from : ℕ
  pub positive : 0 < get_or rates from 0
  pub counted : new_place rates from ≡ q

pub came : (rates : List ℕ) (q : ℕ) → q < positives rates → Came rates q
came [] q l = absurd (omega arith)
came (zero ∷ rs) q l = let c = came rs q l in record { from = suc c.from; positive = c.positive; counted = c.counted }
came (suc r ∷ rs) zero l = record { from = zero; positive = omega arith; counted = refl }
came (suc r ∷ rs) (suc q) l =
    let c = came rs q (omega arith) in
    record { from = suc c.from; positive = c.positive; counted = ap suc c.counted }

pub came_value : {rates : List ℕ} {q : ℕ} (c : Came rates q) (values : List ℕ) → length values ≡ length rates
    → get_or (kept values rates) q 0 ≡ get_or values c.from 0
came_value {rates} c values e = rw c.counted at (kept_at values rates c.from e c.positive)

-- ---- sums

nothing : (b : Bool) → cond b 0 0 ≡ zero
nothing true = refl
nothing false = refl

-- up to a place, what the kept entries add to the rate of a move to j is what all entries add
pub kept_sum : (j : ℕ) (columns rates : List ℕ) (p : ℕ) → length columns ≡ length rates → p ≤ length rates
    → sum (new_place rates p) (adds (kept columns rates) (kept rates rates) j) ≡ sum p (adds columns rates j)
unfolding sum
kept_sum j columns rates zero e l = refl
kept_sum j [] [] (suc p) e l = absurd (omega arith)
kept_sum j [] (r ∷ rs) (suc p) e l = absurd (omega arith)
kept_sum j (c ∷ cs) [] (suc p) e l = absurd (omega arith)
kept_sum j (c ∷ cs) (zero ∷ rs) (suc p) e l = omega (arith, nothing (eqb c j), kept_sum j cs rs p (omega arith) (omega arith))
kept_sum j (c ∷ cs) (suc r ∷ rs) (suc p) e l = omega (arith, kept_sum j cs rs p (omega arith) (omega arith))

-- ---- all rates positive

pub kept_all : (values rates : List ℕ) → length values ≡ length rates → ((i : ℕ) → i < length rates → 0 < get_or rates i 0) → kept values rates ≡ values
kept_all [] rates e h = refl
kept_all (v ∷ vs) [] e h = absurd (omega arith)
kept_all (v ∷ vs) (zero ∷ rs) e h = absurd (omega (arith, h zero (omega arith)))
kept_all (v ∷ vs) (suc r ∷ rs) e h = ap (λ (t : List ℕ). v ∷ t) (kept_all vs rs (omega arith) (λ i l. h (suc i) (suc-le-suc l)))
