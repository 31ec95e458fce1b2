-- Exact arithmetic keeps all promises, so the error bound is not empty; and it keeps them with the factor 1, so the elimination in
-- exact arithmetic gives the exact weights. Assumes nothing.
use mathlib.Core.Path.{◌≡◌, refl, ◌∙◌}
use mathlib.Core.Logic.{◌≢◌}
use mathlib.Core.Bool.{Bool, true, false, cond}
use Prim.Native.Nat.{ℕ, zero, suc, ◌*◌, ◌/◌, ◌<◌}
use native.Mathlib.Nat.{le_refl, le_antisymm, zero-add, add-zero, mul_comm, mul-one}
use native.Mathlib.Omega.{arith}
use lib.Dec.{eqb}
use borrow.Author.Tests.{eqb-true}
use Rattle.basics.specs.Near.{Factor, Near}
use Rattle.basics.proofs.NearLaws.{near_same, near_eq}
use Rattle.markov.specs.Chain.{Rates, Irreducible}
use Rattle.markov.specs.Weight.{weight}
use Rattle.markov.specs.Elimination.{weights}
use Rattle.markov.specs.Promises.{Added, Promises, AllFit}
use Rattle.basics.proofs.TermLaws.{one_pow}
use Rattle.markov.proofs.ExactNumbers.{Num, number, none, units, IsNumber, fraction, plus, times, over, exact}
use Rattle.markov.proofs.EliminationBound.{elimination_bound}

-- a fraction that is a number is right
fraction_is : (p q : ℕ) → IsNumber (fraction p q) → units (fraction p q) * q ≡ p
unfolding fraction
fraction_is p zero f = absurd f
fraction_is p (suc q) f = go (eqb (p / suc q * suc q) p) refl f
  where
    go : (t : Bool) → eqb (p / suc q * suc q) p ≡ t → IsNumber (cond t (number (p / suc q)) none) → units (cond t (number (p / suc q)) none) * suc q ≡ p
    go true e f = eqb-true (p / suc q * suc q) p e
    go false e f = absurd f

module _ (F : Factor) (one : ℕ) (pos : zero < one) where
  added : (x y : Num) → IsNumber x → IsNumber y → IsNumber (plus x y) → Added F (units x) (units y) (units (plus x y))
  added none y fx fy f = absurd fx
  added (number x) none fx fy f = absurd fy
  added (number x) (number y) fx fy f = record { left = λ e. rw e (zero-add y); right = λ e. rw e (add-zero x); near = near_same 1 }

  multiplied : (x y : Num) → IsNumber x → IsNumber y → IsNumber (times one x y) → Near F 1 (one * units (times one x y)) (units x * units y)
  multiplied none y fx fy f = absurd fx
  multiplied (number x) none fx fy f = absurd fy
  multiplied (number x) (number y) fx fy f = near_eq (near_same {x = x * y} 1) (mul_comm one (units (fraction (x * y) one)) ∙ fraction_is (x * y) one f) refl

  divided : (x y : Num) → IsNumber x → IsNumber y → IsNumber (over one x y) → zero < units y → Near F 1 (units (over one x y) * units y) (one * units x)
  divided none y fx fy f p = absurd fx
  divided (number x) none fx fy f p = absurd fy
  divided (number x) (number y) fx fy f p = near_eq (near_same {x = one * x} 1) (fraction_is (one * x) y f) refl

  pub exact_promises : Promises F (exact one) one units IsNumber
  unfolding exact
  exact_promises = record { one_pos = pos; nought_is = refl; unit_is = refl; added = added; multiplied = multiplied; divided = divided }

-- ---- the factor 1

abbrev unity : Factor
unity = record { num = 1; den = 1; den_pos = omega arith; at_least_1 = le_refl 1 }

unity_equal : {c x y : ℕ} → Near unity c x y → x ≡ y
unity_equal {c} h = le_antisymm (simp (one_pow, mul-one) at h.under.bound) (simp (one_pow, mul-one) at h.over.bound)

-- the elimination in exact arithmetic: weight i over the last weight is exact
pub exact_elimination : (one : ℕ) → zero < one → (r : ℕ) (a : ℕ → ℕ → Num) (rate : Rates)
    → ((i j : ℕ) → i < suc r → j < suc r → i ≢ j → units (a i j) ≡ rate i j * one) → Irreducible (suc r) rate → AllFit (exact one) IsNumber r a
    → (i : ℕ) → i < suc r → units (weights (exact one) r a i) * weight (suc r) rate r ≡ one * weight (suc r) rate i
exact_elimination one pos r a rate e c h i l = unity_equal (elimination_bound (exact_promises unity one pos) r a rate e c h i l)
