-- Where all numbers met fit, whatever follows from fitting holds of them, and the weights fit. Assumes nothing.
use Prim.Native.Nat.{ℕ, zero, suc, ◌<◌}
use Rattle.markov.specs.Elimination.{Ops, next, weights}
use Rattle.markov.specs.Promises.{FitsOn, FitsBack, AllFit, AllFitShares}

module _ {X : Type 0} (O : Ops X) {Fit Fit' : X → Type 0} (give : (x : X) → Fit x → Fit' x) where
  on_map : {r : ℕ} {a : ℕ → ℕ → X} → FitsOn O Fit r a → FitsOn O Fit' r a
  on_map h = record {
    entries = λ i j li lj ne. give _ (h.entries i j li lj ne);
    pivots = λ k l. give _ (h.pivots k l);
    quotients = λ j l. give _ (h.quotients j l);
    products = λ i j li lj ne. give _ (h.products i j li lj ne);
    nexts = λ i j li lj ne. give _ (h.nexts i j li lj ne);
  }

  back_map : {r : ℕ} {a : ℕ → ℕ → X} {w : ℕ → X} → FitsBack O Fit r a w → FitsBack O Fit' r a w
  back_map h = record {
    weights_fit = λ i l. give _ (h.weights_fit i l);
    terms = λ j l. give _ (h.terms j l);
    sums = λ k l. give _ (h.sums k l);
  }

  all_fit_map : (r : ℕ) (a : ℕ → ℕ → X) → AllFit O Fit r a → AllFit O Fit' r a
  all_fit_map zero a h = give O.unit h
  all_fit_map (suc r) a h = (on_map h.0, back_map h.1, all_fit_map r (next O (suc r) a) h.2)

  pub shares_fit_map : (r : ℕ) (a : ℕ → ℕ → X) → AllFitShares O Fit r a → AllFitShares O Fit' r a
  shares_fit_map r a h = record {
    elimination = all_fit_map r a h.elimination;
    sums = λ k l. give _ (h.sums k l);
    shares_fit = λ i l. give _ (h.shares_fit i l);
  }

pub all_weights_fit : {X : Type 0} (O : Ops X) (Fit : X → Type 0) (r : ℕ) (a : ℕ → ℕ → X) → AllFit O Fit r a → (i : ℕ) → i < suc r → Fit (weights O r a i)
unfolding weights
all_weights_fit O Fit zero a h i l = h
all_weights_fit O Fit (suc r) a h i l = h.1.weights_fit i l
