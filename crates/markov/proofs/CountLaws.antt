-- The bound count: its division leaves no rest, what a state adds to it, and that it is at least the count of the elimination's own steps. Assumes nothing.
use mathlib.Core.Path.{◌≡◌, refl, ◌∙◌}
use Prim.Native.Nat.{ℕ, zero, suc, ◌+◌, ◌*◌, ◌≤◌, ◌<◌, zero-le}
use native.Mathlib.Nat.{mul-le-mul, le_refl}
use native.Mathlib.Omega.{arith}
use Rattle.basics.specs.Sum.{sum}
use Rattle.basics.proofs.SumLaws.{sum_last, sum_mono, term_le_sum}
use Rattle.markov.specs.Elimination.{Ops, next}
use Rattle.markov.specs.Count.{bound_count}
use Rattle.markov.proofs.StepCounts.{mark, positives, step_count, elimination_count}

-- ---- the formula

-- K(n) by what each state adds to it
added : ℕ → ℕ
added zero = 0
added (suc n) = added n + 2 * (n * (n + 3))

added_formula : (n : ℕ) → 3 * added n + 8 * n ≡ 2 * (n * n * n) + 6 * (n * n)
unfolding added
added_formula zero = refl
added_formula (suc n) = omega (arith, added_formula n)

bound_added : (n : ℕ) → bound_count n ≡ added n
unfolding bound_count
bound_added n = omega (arith, added_formula n)

-- K(n) = (2n^3 + 6n^2 - 8n) / 3, multiplied across: the division leaves no rest
pub bound_count_formula : (n : ℕ) → 3 * bound_count n + 8 * n ≡ 2 * (n * n * n) + 6 * (n * n)
bound_count_formula n = omega (arith, added_formula n, bound_added n)

-- what one more state adds
pub bound_count_suc : (n : ℕ) → bound_count (suc n) ≡ bound_count n + 2 * (n * (n + 3))
bound_count_suc n = omega (arith, bound_count_formula n, bound_count_formula (suc n))

-- ---- positive terms

mark_le : (x y : ℕ) → (y ≡ zero → x ≡ zero) → mark x ≤ mark y
unfolding mark
mark_le zero y h = zero-le
mark_le (suc x) zero h = absurd (omega (arith, h refl))
mark_le (suc x) (suc y) h = le_refl 1

mark_le_1 : (x : ℕ) → mark x ≤ 1
unfolding mark
mark_le_1 zero = zero-le
mark_le_1 (suc x) = le_refl 1

pub positives_last : (n : ℕ) (f : ℕ → ℕ) → positives (suc n) f ≡ positives n f + mark (f n)
unfolding positives
positives_last n f = sum_last n (λ i. mark (f i))

pub positives_le : (n : ℕ) (f : ℕ → ℕ) → positives n f ≤ n
positives_le zero f = unfold positives sum in zero-le
positives_le (suc n) f = omega (arith, positives_last n f, positives_le n f, mark_le_1 (f n))

-- where every term of g that is 0 is one of f
pub positives_mono : (n : ℕ) {f g : ℕ → ℕ} → ((i : ℕ) → i < n → g i ≡ zero → f i ≡ zero) → positives n f ≤ positives n g
unfolding positives
positives_mono n {f} {g} h = sum_mono n (λ i l. mark_le (f i) (g i) (h i l))

pub no_positives : (n : ℕ) (f : ℕ → ℕ) → positives n f ≡ zero → sum n f ≡ zero
unfolding sum mark
no_positives zero f e = refl
no_positives (suc n) f e =
    sum_last n f ∙ omega (arith, no_positives n f (omega (arith, positives_last n f)), mark_zero (f n) (omega (arith, positives_last n f)))
  where
    mark_zero : (x : ℕ) → mark x ≡ zero → x ≡ zero
    mark_zero zero p = refl
    mark_zero (suc x) p = omega arith

pub no_positives_at : (n : ℕ) (f : ℕ → ℕ) → positives n f ≡ zero → (i : ℕ) → i < n → f i ≡ zero
no_positives_at n f e i l = omega (arith, no_positives n f e, term_le_sum n f i l)

-- a positive sum has a positive term
pub positives_pos : (n : ℕ) (f : ℕ → ℕ) → zero < sum n f → zero < positives n f
positives_pos n f h = go (positives n f) refl
  where
    go : (k : ℕ) → positives n f ≡ k → zero < k
    go zero e = omega (arith, no_positives n f e)
    go (suc k) e = omega arith

-- ---- the steps' counts

step_count_le : (r b c : ℕ) → b ≤ suc r → c ≤ suc r → step_count r b c ≤ 2 * (suc r * (suc r + 3))
unfolding step_count
step_count_le r b c hb hc = omega (arith, mul-le-mul (le_refl r) hb)

-- "It never exceeds K."
pub elimination_count_le : {X : Type 0} (O : Ops X) (val : X → ℕ) (r : ℕ) (a : ℕ → ℕ → X) → elimination_count O val r a ≤ bound_count (suc r)
unfolding elimination_count
elimination_count_le O val zero a = zero-le
elimination_count_le O val (suc r) a =
    omega (
      arith,
      bound_count_suc (suc r),
      elimination_count_le O val r (next O (suc r) a),
      step_count_le r _ _ (positives_le (suc r) (λ j. val (a zero (suc j)))) (positives_le (suc r) (λ i. val (a (suc i) zero))),
    )
