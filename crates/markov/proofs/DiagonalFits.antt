-- Matrices with equal entries between different states meet the same numbers: where every number met from one is a number, so it is from
-- the other. Assumes nothing.
use mathlib.Core.Path.{◌≡◌, ap₂, subst}
use Prim.Native.Nat.{ℕ, zero, suc, ◌<◌}
use native.Mathlib.Omega.{arith}
use Rattle.markov.specs.Elimination.{Ops, quotient_at, weights}
use Rattle.markov.specs.Promises.{FitsOn, FitsBack, AllFit}
use Rattle.markov.proofs.Diagonal.{Agree, total_cong, row_cong, column_cong, pivot_cong, next_cong, weights_cong}

module _ {X : Type 0} (O : Ops X) (Fit : X → Type 0) where
  module _ (r : ℕ) {a b : ℕ → ℕ → X} (h : Agree (suc r) a b) where
    quotient_cong : (j : ℕ) → j < suc r → quotient_at O (suc r) a j ≡ quotient_at O (suc r) b j
    unfolding quotient_at
    quotient_cong j l = ap₂ O.div (row_cong O (suc r) h j l) (pivot_cong O (suc r) h)

    fits_on_cong : FitsOn O Fit (suc r) a → FitsOn O Fit (suc r) b
    fits_on_cong f = record {
      entries = λ i j li lj d. subst Fit (h i j li lj d) (f.entries i j li lj d);
      pivots = λ k l. subst Fit (total_cong O k (λ j g. row_cong O (suc r) h j (omega arith))) (f.pivots k l);
      quotients = λ j l. subst Fit (quotient_cong j l) (f.quotients j l);
      products = λ i j li lj d. subst Fit (ap₂ O.mul (column_cong O (suc r) h i li) (quotient_cong j lj)) (f.products i j li lj d);
      nexts = λ i j li lj d. subst Fit (next_cong O r h i j li lj d) (f.nexts i j li lj d);
    }

    -- weight j + 1 times entry (j + 1, 0)
    term_cong : (j : ℕ) → j < suc r → O.mul (weights O (suc r) a (suc j)) (a (suc j) zero) ≡ O.mul (weights O (suc r) b (suc j)) (b (suc j) zero)
    term_cong j l = ap₂ O.mul (weights_cong O (suc r) h (suc j) (omega arith)) (column_cong O (suc r) h j l)

    fits_back_cong : FitsBack O Fit (suc r) a (weights O (suc r) a) → FitsBack O Fit (suc r) b (weights O (suc r) b)
    fits_back_cong f = record {
      weights_fit = λ i l. subst Fit (weights_cong O (suc r) h i l) (f.weights_fit i l);
      terms = λ j l. subst Fit (term_cong j l) (f.terms j l);
      sums = λ k l. subst Fit (total_cong O k (λ j g. term_cong j (omega arith))) (f.sums k l);
    }

  pub all_fit_cong : (r : ℕ) {a b : ℕ → ℕ → X} → Agree r a b → AllFit O Fit r a → AllFit O Fit r b
  all_fit_cong zero h f = f
  all_fit_cong (suc r) h f = (fits_on_cong r h f.0, fits_back_cong r h f.1, all_fit_cong r (next_cong O r h) f.2)
