-- Step after step: what stands in the slices is the matrix of the elimination at each step. Assumes nothing.
use mathlib.Core.Logic.{◌≢◌, ⊎_elim}
use mathlib.Core.Path.{◌≡◌, sym, ap, ap₂, subst⁻¹, ◌∙◌}
use Prim.Native.Nat.{ℕ, zero, suc, ◌+◌, ◌-◌, ◌≤◌, ◌<◌}
use native.Mathlib.Nat.{eq-or-lt_of_le, zero-add}
use native.Mathlib.Numerals.{add-one}
use native.Mathlib.Omega.{arith}
use Rattle.scaled.specs.declared.Scaled.{Scaled}
use Rattle.markov.specs.Elimination.{total, pivot_of, quotient_at, next}
use Rattle.markov.specs.Promises.{FitsOn, AllFit}
use Rattle.kernel.specs.Numbers.{ops, Fit, plus, times, divided_by, stage}
use Rattle.kernel.specs.Slices.{Slices, entry_at}
use Rattle.steps.specs.Inner.{pivot_at, next_at, Standing, Stepped, StagesFit, Eliminated}
use Rattle.markov.proofs.Diagonal.{total_cong}

-- ---- all steps

pub eliminated_none : {n : ℕ} (s : Slices) → Eliminated n 0 (entry_at n s) s
unfolding stage
eliminated_none {n} s = record {
  rest = λ a b i j p q ha hb d. ap₂ (entry_at n s) (p ∙ zero-add i) (q ∙ zero-add j);
  column = λ c a i l p ha. absurd (omega arith);
  pivot = λ c l. absurd (omega arith);
}

module _ {n k : ℕ} {x : ℕ → ℕ → Scaled} {s : Slices} (hk : k + 1 < n) (h : Eliminated n k x s) where
  sum_is : (c : ℕ) → c ≤ n - (k + 1) → total ops c (λ j. entry_at n s k (k + 1 + j)) ≡ total ops c (λ j. stage n k x zero (suc j))
  sum_is c g = total_cong ops c (λ j l. h.rest k (k + 1 + j) zero (suc j) (omega arith) (omega arith) (omega arith) (omega arith) (λ z. omega arith))

  pivot_is : pivot_at n s k ≡ pivot_of ops (n - (k + 1)) (stage n k x)
  unfolding pivot_at pivot_of
  pivot_is = sum_is (n - (k + 1)) (omega arith)

  quotient_at_is : (b j : ℕ) → b ≡ k + 1 + j → b < n → divided_by (entry_at n s k b) (pivot_at n s k) ≡ quotient_at ops (n - (k + 1)) (stage n k x) j
  unfolding quotient_at
  quotient_at_is b j q hb = ap₂ divided_by (h.rest k b zero (suc j) (omega arith) (omega arith) (omega arith) hb (λ z. omega arith)) pivot_is

  next_at_is : (a b i j : ℕ) → a ≡ k + 1 + i → b ≡ k + 1 + j → a < n → b < n → i ≢ j → next_at n s k a b ≡ next ops (n - (k + 1)) (stage n k x) i j
  unfolding next
  next_at_is a b i j p q ha hb d =
      ap₂ plus (h.rest a b (suc i) (suc j) (omega arith) (omega arith) ha hb (λ z. d (omega arith)))
      (ap₂ times (h.rest a k (suc i) zero (omega arith) (omega arith) ha (omega arith) (λ z. omega arith)) (quotient_at_is b j q hb))

  -- what step k meets, where every number of stage k is a scaled number
  pub standing : FitsOn ops Fit (n - (k + 1)) (stage n k x) → Standing n k s
  standing f = record {
    sums = record { at = λ c g. subst⁻¹ Fit (sum_is c g) (f.pivots c g) };
    quotients = λ b g hb. subst⁻¹ Fit (quotient_at_is b (b - (k + 1)) (omega arith) hb) (f.quotients (b - (k + 1)) (omega arith));
    nexts = λ a b l ha g hb d.
        subst⁻¹ Fit
        (next_at_is a b (a - (k + 1)) (b - (k + 1)) (omega arith) (omega arith) ha hb (λ z. d (omega arith)))
        (f.nexts (a - (k + 1)) (b - (k + 1)) (omega arith) (omega arith) (λ z. d (omega arith)));
  }

module _ {n k : ℕ} {x : ℕ → ℕ → Scaled} {s s' : Slices} (hk : k + 1 < n) (h : Eliminated n k x s) (t : Stepped n k s s') where
  rest_on : (a b i j : ℕ) → a ≡ k + 1 + i → b ≡ k + 1 + j → a < n → b < n → i ≢ j → entry_at n s' a b ≡ next ops (n - (k + 1)) (stage n k x) i j
  rest_on a b i j p q ha hb d = t.entries a b (omega arith) ha (omega arith) hb (λ z. d (omega arith)) ∙ next_at_is hk h a b i j p q ha hb d

  column_on : (c a i : ℕ) → c < suc k → a ≡ c + suc i → a < n → entry_at n s' a c ≡ stage n c x (suc i) zero
  column_on c a i l p ha =
      ⊎_elim
      (λ (z : c ≡ k).
      ap (λ v. entry_at n s' a v) z
      ∙ t.column a (omega arith) ha
      ∙ h.rest a k (suc i) zero (omega arith) (omega arith) ha (omega arith) (λ w. omega arith)
      ∙ ap (λ v. stage n v x (suc i) zero) (sym z))
      (λ z. t.earlier a c ha z ∙ h.column c a i z p ha)
      (eq-or-lt_of_le (omega arith))

  pivot_on : (c : ℕ) → c < suc k → entry_at n s' c c ≡ pivot_of ops (n - (c + 1)) (stage n c x)
  pivot_on c l =
      ⊎_elim (λ (z : c ≡ k). rw z (t.pivot ∙ pivot_is hk h)) (λ z. t.earlier c c (omega arith) z ∙ h.pivot c z) (eq-or-lt_of_le (omega arith))

  pub eliminated_go : Eliminated n (k + 1) x s'
  unfolding stage
  eliminated_go = rw add-one (record { rest = λ a b i j p q ha hb d. rest_on a b i j (omega arith) (omega arith) ha hb d; column = column_on; pivot = pivot_on })

-- ---- every stage of a matrix for which every number met is a scaled number

module _ (n : ℕ) (x : ℕ → ℕ → Scaled) (f : AllFit ops Fit (n - 1) x) where
  pub stage_fits : (k : ℕ) → k < n → AllFit ops Fit (n - (k + 1)) (stage n k x)
  unfolding stage
  stage_fits zero l = let z : n - (0 + 1) ≡ n - 1 = omega arith in rw z f
  stage_fits (suc k) l =
      let z : n - (k + 1) ≡ suc (n - (suc k + 1)) = omega arith in
      let h : AllFit ops Fit (n - (k + 1)) (stage n k x) = stage_fits k (omega arith) in
      rw z (rw z at h).2

  pub stages_fit : StagesFit n x
  stages_fit = record {
    at = λ k l.
        let z : n - (k + 1) ≡ suc (n - (k + 2)) = omega arith in
        let h : AllFit ops Fit (n - (k + 1)) (stage n k x) = stage_fits k (omega arith) in
        rw z (rw z at h).0;
  }
