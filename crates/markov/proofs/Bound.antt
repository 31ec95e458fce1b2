-- The error bound of the elimination against the exact weights of its own matrix, step by step. Assumes nothing.
-- Three facts by one induction each: the product of the computed pivots against that of the exact row sums of the computed
-- matrices, that product against the weight of the last state, and the computed weights times that product against the weights.
use mathlib.Core.Path.{◌≡◌, refl}
use Prim.Native.Nat.{ℕ, zero, suc, pred, ◌+◌, ◌*◌, ◌≤◌, ◌<◌, zero-le}
use native.Mathlib.Nat.{mul-pos}
use native.Mathlib.Omega.{arith}
use Rattle.basics.specs.Near.{Factor, Near}
use Rattle.basics.proofs.NearLaws.{near_same, near_eq, near_sym, near_trans, near_more, near_mul, near_scale, near_cancel}
use Rattle.markov.specs.Chain.{Rates, Irreducible}
use Rattle.markov.specs.Weight.{weight}
use Rattle.markov.specs.Elimination.{Ops, next, weights}
use Rattle.markov.proofs.StepCounts.{positives, step_count, elimination_count, pivot_product}
use Rattle.markov.specs.Promises.{Promises, AllFit}
use Rattle.markov.proofs.CountLaws.{positives_le}
use Rattle.markov.proofs.Positive.{weight_alone}
use Rattle.markov.proofs.Step.{pivot, pivot_pos}
use Rattle.markov.proofs.Perturb.{next_irreducible, step_near, tail_near, head_near}
use Rattle.markov.proofs.Rounding.{pivot_near, entry_near, back_near}

module _ {X : Type 0} (val : X → ℕ) where
  abbrev pub vals : (ℕ → ℕ → X) → Rates
  vals a i j = val (a i j)

  -- the positive entries of the pivot's row, and of its column
  abbrev row_of : ℕ → (ℕ → ℕ → X) → ℕ
  row_of r a = positives (suc r) (λ j. val (a zero (suc j)))

  abbrev column_of : ℕ → (ℕ → ℕ → X) → ℕ
  column_of r a = positives (suc r) (λ i. val (a (suc i) zero))

module _ {X : Type 0} (O : Ops X) (val : X → ℕ) where
  -- the product of the exact row sums of the matrices met
  sum_product : ℕ → (ℕ → ℕ → X) → ℕ
  sum_product zero a = 1
  sum_product (suc r) a = pivot (suc r) (vals val a) * sum_product r (next O (suc r) a)

  -- the counts of the three facts
  pivot_count : ℕ → (ℕ → ℕ → X) → ℕ
  pivot_count zero a = 0
  pivot_count (suc r) a = pred (row_of val r a) + pivot_count r (next O (suc r) a)

  last_count : ℕ → (ℕ → ℕ → X) → ℕ
  last_count zero a = 0
  last_count (suc r) a = last_count r (next O (suc r) a) + r * (row_of val r a + 2)

  weight_count : ℕ → (ℕ → ℕ → X) → ℕ
  weight_count zero a = 0
  weight_count (suc r) a = weight_count r (next O (suc r) a) + r * (row_of val r a + 2) + (row_of val r a + column_of val r a)

  counts_add : (r : ℕ) (a : ℕ → ℕ → X) → weight_count r a + last_count r a ≡ elimination_count O val r a
  unfolding weight_count last_count elimination_count step_count
  counts_add zero a = refl
  counts_add (suc r) a = omega (arith, counts_add r (next O (suc r) a))

  pivot_count_le : (r : ℕ) (a : ℕ → ℕ → X) → pivot_count r a ≤ last_count r a
  unfolding pivot_count last_count
  pivot_count_le zero a = zero-le
  pivot_count_le (suc r) a = omega (arith, pivot_count_le r (next O (suc r) a), one_step r (row_of val r a) (positives_le (suc r) (λ j. val (a zero (suc j)))))
    where
      one_step : (r b : ℕ) → b ≤ suc r → pred b ≤ r * (b + 2)
      one_step zero b l = omega arith
      one_step (suc r) b l = omega arith

module _ {F : Factor} {X : Type 0} {O : Ops X} {one : ℕ} {val : X → ℕ} {Fit : X → Type 0} (P : Promises F O one val Fit) where
  -- the matrix of the next step is still irreducible
  still_irreducible : (r : ℕ) (a : ℕ → ℕ → X) → AllFit O Fit (suc r) a → Irreducible (suc (suc r)) (vals val a) → Irreducible (suc r) (vals val (next O (suc r) a))
  still_irreducible r a h c = next_irreducible r (vals val a) (vals val (next O (suc r) a)) (entry_near P r a h.0 c) c

  pivots_near : (r : ℕ) (a : ℕ → ℕ → X) → AllFit O Fit r a → Irreducible (suc r) (vals val a) → Near F (pivot_count O val r a) (pivot_product O val r a) (sum_product O val r a)
  unfolding pivot_count pivot_product sum_product
  pivots_near zero a h c = near_same zero
  pivots_near (suc r) a h c = near_mul (pivot_near P r a h.0 c) (pivots_near r (next O (suc r) a) h.2 (still_irreducible r a h c))

  sums_pos : (r : ℕ) (a : ℕ → ℕ → X) → AllFit O Fit r a → Irreducible (suc r) (vals val a) → zero < sum_product O val r a
  unfolding sum_product
  sums_pos zero a h c = omega arith
  sums_pos (suc r) a h c = mul-pos (pivot_pos (suc r) (vals val a) (omega arith) c) (sums_pos r (next O (suc r) a) h.2 (still_irreducible r a h c))

  last_near : (r : ℕ) (a : ℕ → ℕ → X) → AllFit O Fit r a → Irreducible (suc r) (vals val a)
      → Near F (last_count O val r a) (sum_product O val r a) (weight (suc r) (vals val a) r)
  unfolding last_count sum_product
  last_near zero a h c = rw (weight_alone (vals val a)) (near_same zero)
  last_near (suc r) a h c =
      near_trans (near_scale (pivot (suc r) (vals val a)) (last_near r (next O (suc r) a) h.2 (still_irreducible r a h c)))
      (step_near r (vals val a) (vals val (next O (suc r) a)) (entry_near P r a h.0 c) c r (omega arith))

  -- the states other than 0 of one step, from the bound of the next matrix
  others_near : (r : ℕ) (a : ℕ → ℕ → X) → AllFit O Fit (suc r) a → Irreducible (suc (suc r)) (vals val a) → {k : ℕ} (z : ℕ)
      → ((i : ℕ) → i < suc r → Near F k (val (weights O r (next O (suc r) a) i) * z) (one * weight (suc r) (vals val (next O (suc r) a)) i))
      → (i : ℕ) → i < suc r
      → Near F (k + r * (row_of val r a + 2)) (val (weights O r (next O (suc r) a) i) * (pivot (suc r) (vals val a) * z)) (one * weight (suc (suc r)) (vals val a) (suc i))
  others_near r a h c z ih =
      tail_near r (vals val a) (vals val (next O (suc r) a)) (entry_near P r a h.0 c) c one z (λ i. val (weights O r (next O (suc r) a) i)) ih

  weights_near : (r : ℕ) (a : ℕ → ℕ → X) → AllFit O Fit r a → Irreducible (suc r) (vals val a)
      → (i : ℕ) → i < suc r → Near F (weight_count O val r a) (val (weights O r a i) * sum_product O val r a) (one * weight (suc r) (vals val a) i)
  unfolding weight_count sum_product weights
  weights_near zero a h c zero l = rw (P.unit_is, weight_alone (vals val a)) (near_same zero)
  weights_near zero a h c (suc i) l = absurd (omega arith)
  weights_near (suc r) a h c zero l =
      head_near (suc r) (vals val a) one (pivot (suc r) (vals val a) * sum_product O val r (next O (suc r) a)) (λ i. val (weights O (suc r) a i))
      (pivot_pos (suc r) (vals val a) (omega arith) c) (back_near P r a h.0 c h.1)
      (others_near r a h c (sum_product O val r (next O (suc r) a)) (λ i l. weights_near r (next O (suc r) a) h.2 (still_irreducible r a h c) i l))
  weights_near (suc r) a h c (suc i) l =
      near_more (omega arith)
      (others_near r a h c (sum_product O val r (next O (suc r) a)) (λ i l. weights_near r (next O (suc r) a) h.2 (still_irreducible r a h c) i l) i (omega arith))

  -- the computed weights over the last, within the count of the steps
  pub own_bound : (r : ℕ) (a : ℕ → ℕ → X) → AllFit O Fit r a → Irreducible (suc r) (vals val a) → (i : ℕ) → i < suc r
      → Near F (elimination_count O val r a) (val (weights O r a i) * weight (suc r) (vals val a) r) (one * weight (suc r) (vals val a) i)
  own_bound r a h c i l =
      rw (← (counts_add O val r a))
      (near_cancel (sums_pos r a h c) (near_eq (near_mul (weights_near r a h c i l) (near_sym (last_near r a h c))) (omega arith) (omega arith)))

  -- the computed weights times the product of the computed pivots
  pub own_bound_absolute : (r : ℕ) (a : ℕ → ℕ → X) → AllFit O Fit r a → Irreducible (suc r) (vals val a) → (i : ℕ) → i < suc r
      → Near F (elimination_count O val r a) (val (weights O r a i) * pivot_product O val r a) (one * weight (suc r) (vals val a) i)
  own_bound_absolute r a h c i l =
      near_more (omega (arith, counts_add O val r a, pivot_count_le O val r a))
      (near_trans (near_scale (val (weights O r a i)) (pivots_near r a h c)) (weights_near r a h c i l))
