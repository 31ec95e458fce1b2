-- The error bound used on case 2, and the exact elimination on case 3: their hypotheses can be met. Assumes nothing.
use mathlib.Core.Path.{◌≡◌, refl}
use mathlib.Core.Logic.{◌≢◌}
use Prim.Native.Nat.{ℕ, zero, suc, ◌*◌, ◌<◌}
use native.Mathlib.Omega.{arith}
use lib.Dec.{lit<}
use Rattle.basics.specs.Sum.{sum}
use Rattle.basics.specs.Near.{Factor, Near}
use Rattle.markov.specs.Chain.{Reaches, here, move, Irreducible}
use Rattle.markov.specs.Weight.{weight}
use Rattle.markov.specs.Count.{bound_count}
use Rattle.markov.specs.Elimination.{total, pivot_of, quotient_at, next, weights, shares}
use Rattle.markov.specs.Promises.{FitsOn, FitsBack, AllFit, AllFitShares}
use Rattle.markov.proofs.ExactNumbers.{Num, number, none, units, IsNumber, fraction, plus, times, exact}
use Rattle.markov.proofs.Cases.{only, case2, case3, matrix, weights_2}
use Rattle.markov.proofs.EliminationBound.{elimination_bound, share_bound}
use Rattle.markov.proofs.Exact.{exact_promises, exact_elimination}

-- ---- every state reaches every other

irreducible_2 : Irreducible 2 case2
unfolding case2 only
irreducible_2 = record { path = path }
  where
    path : (i j : ℕ) → i < 2 → j < 2 → Reaches 2 case2 i j
    path zero zero hi hj = here
    path zero (suc zero) hi hj = move {i = 0} {k = 1} (lit< tt) (lit< tt) here
    path zero (suc (suc j)) hi hj = absurd (omega arith)
    path (suc zero) zero hi hj = move {i = 1} {k = 0} (lit< tt) (lit< tt) here
    path (suc zero) (suc zero) hi hj = here
    path (suc zero) (suc (suc j)) hi hj = absurd (omega arith)
    path (suc (suc i)) j hi hj = absurd (omega arith)

irreducible_3 : Irreducible 3 case3
unfolding case3 only
irreducible_3 = record { path = λ i j hi hj. from i hi j hj }
  where
    on_0 : {j : ℕ} → Reaches 3 case3 1 j → Reaches 3 case3 0 j
    on_0 t = move {i = 0} {k = 1} (lit< tt) (lit< tt) t

    on_1 : {j : ℕ} → Reaches 3 case3 2 j → Reaches 3 case3 1 j
    on_1 t = move {i = 1} {k = 2} (lit< tt) (lit< tt) t

    on_2 : {j : ℕ} → Reaches 3 case3 0 j → Reaches 3 case3 2 j
    on_2 t = move {i = 2} {k = 0} (lit< tt) (lit< tt) t

    to : (j : ℕ) → j < 3 → Reaches 3 case3 0 j
    to zero hj = here
    to (suc zero) hj = on_0 here
    to (suc (suc zero)) hj = on_0 (on_1 here)
    to (suc (suc (suc j))) hj = absurd (omega arith)

    from : (i : ℕ) → i < 3 → (j : ℕ) → j < 3 → Reaches 3 case3 i j
    from zero hi j hj = to j hj
    from (suc zero) hi j hj = on_1 (on_2 (to j hj))
    from (suc (suc zero)) hi j hj = on_2 (to j hj)
    from (suc (suc (suc i))) hi j hj = absurd (omega arith)

-- ---- all numbers met fit

-- at the numbers below 1, 2 and 3
at_1 : (P : ℕ → Type 0) → P 0 → (i : ℕ) → i < 1 → P i
at_1 P p zero l = p
at_1 P p (suc i) l = absurd (omega arith)

at_2 : (P : ℕ → Type 0) → P 0 → P 1 → (i : ℕ) → i < 2 → P i
at_2 P p q zero l = p
at_2 P p q (suc i) l = at_1 (λ i. P (suc i)) q i (omega arith)

at_3 : (P : ℕ → Type 0) → P 0 → P 1 → P 2 → (i : ℕ) → i < 3 → P i
at_3 P p q r zero l = p
at_3 P p q r (suc i) l = at_2 (λ i. P (suc i)) q r i (omega arith)

-- at two different ones of them
apart_2 : (P : ℕ → ℕ → Type 0) → P 0 1 → P 1 0 → (i j : ℕ) → i < 2 → j < 2 → i ≢ j → P i j
apart_2 P p q i j l m = at_2 (λ i. i ≢ j → P i j) (at_2 (λ j. 0 ≢ j → P 0 j) (λ d. absurd (d refl)) (λ d. p) j m) (at_2 (λ j. 1 ≢ j → P 1 j) (λ d. q) (λ d. absurd (d refl)) j m) i l

module _ (one : ℕ) where
  total_number : (n : ℕ) (f : ℕ → Num) → ((j : ℕ) → j < n → IsNumber (f j)) → IsNumber (total (exact one) n f)
  unfolding total exact
  total_number zero f h = tt
  total_number (suc n) f h = both (total (exact one) n f) (f n) (total_number n f (λ j l. h j (omega arith))) (h n (omega arith))
    where
      both : (x y : Num) → IsNumber x → IsNumber y → IsNumber (plus x y)
      both none y p q = absurd p
      both (number x) none p q = absurd q
      both (number x) (number y) p q = tt

  -- a step, and its way back: the sums are numbers where their terms are
  module _ (r : ℕ) (a : ℕ → ℕ → Num) where
    on : ((i j : ℕ) → i < suc r → j < suc r → i ≢ j → IsNumber (a i j)) → ((j : ℕ) → j < r → IsNumber (quotient_at (exact one) r a j))
        → ((i j : ℕ) → i < r → j < r → i ≢ j → IsNumber (times one (a (suc i) 0) (quotient_at (exact one) r a j)) × IsNumber (next (exact one) r a i j))
        → FitsOn (exact one) IsNumber r a
    unfolding exact
    on entries quotients new = record {
      entries = entries;
      pivots = λ k l. total_number k _ (λ j m. entries 0 (suc j) (omega arith) (omega arith) (λ e. omega arith));
      quotients = quotients;
      products = λ i j li lj d. (new i j li lj d).0;
      nexts = λ i j li lj d. (new i j li lj d).1;
    }

    back : (w : ℕ → Num) → ((i : ℕ) → i < suc r → IsNumber (w i)) → ((j : ℕ) → j < r → IsNumber (times one (w (suc j)) (a (suc j) 0)))
        → FitsBack (exact one) IsNumber r a w
    unfolding exact
    back w weights_fit terms = record { weights_fit = weights_fit; terms = terms; sums = λ k l. total_number k _ (λ j m. terms j (omega arith)) }

all_fit_2 : AllFitShares (exact 12) IsNumber 1 (matrix 12 case2)
unfolding weights shares total pivot_of quotient_at next exact fraction matrix case2 only
all_fit_2 = record {
  elimination = (
    on 12 1 a (λ i j li lj d. tt) (at_1 (λ j. IsNumber (quotient_at (exact 12) 1 a j)) tt) (λ i j li lj d. absurd (d (omega arith))),
    back 12 1 a w weights_fit (at_1 (λ j. IsNumber (times 12 (w (suc j)) (a (suc j) 0))) tt),
    tt,
  );
  sums = λ k l. total_number 12 k w (λ i m. weights_fit i (omega arith));
  shares_fit = at_2 (λ i. IsNumber (shares (exact 12) 1 a i)) tt tt;
}
  where
    a : ℕ → ℕ → Num
    a = matrix 12 case2

    w : ℕ → Num
    w = weights (exact 12) 1 a

    weights_fit : (i : ℕ) → i < 2 → IsNumber (w i)
    weights_fit = at_2 (λ i. IsNumber (w i)) tt tt

all_fit_3 : AllFit (exact 7) IsNumber 2 (matrix 7 case3)
unfolding weights total pivot_of quotient_at next exact fraction matrix case3 only
all_fit_3 = (
  on 7 2 a (λ i j li lj d. tt) (at_2 (λ j. IsNumber (quotient_at (exact 7) 2 a j)) tt tt) new,
  back 7 2 a (weights (exact 7) 2 a) (at_3 (λ i. IsNumber (weights (exact 7) 2 a i)) tt tt tt) (at_2 (λ j. IsNumber (times 7 (weights (exact 7) 2 a (suc j)) (a (suc j) 0))) tt tt),
  (
    on 7 1 b (λ i j li lj d. (new i j li lj d).1) (at_1 (λ j. IsNumber (quotient_at (exact 7) 1 b j)) tt) (λ i j li lj d. absurd (d (omega arith))),
    back 7 1 b (weights (exact 7) 1 b) (at_2 (λ i. IsNumber (weights (exact 7) 1 b i)) tt tt) (at_1 (λ j. IsNumber (times 7 (weights (exact 7) 1 b (suc j)) (b (suc j) 0))) tt),
    tt,
  ),
)
  where
    a : ℕ → ℕ → Num
    a = matrix 7 case3

    b : ℕ → ℕ → Num
    b = next (exact 7) 2 a

    new : (i j : ℕ) → i < 2 → j < 2 → i ≢ j → IsNumber (times 7 (a (suc i) 0) (quotient_at (exact 7) 2 a j)) × IsNumber (b i j)
    new = apart_2 (λ i j. IsNumber (times 7 (a (suc i) 0) (quotient_at (exact 7) 2 a j)) × IsNumber (b i j)) (tt, tt) (tt, tt)

-- ---- the error bound

count_2 : bound_count 2 ≡ 8
unfolding bound_count
count_2 = refl

-- for any factor: the weights within 8, the shares within 2 × 8 + 2
bound_2 : (F : Factor) (i : ℕ) → i < 2 → Near F 8 (units (weights (exact 12) 1 (matrix 12 case2) i) * 3) (12 * weight 2 case2 i)
unfolding matrix
bound_2 F i l =
    rw (count_2, weights_2.1) at
    (elimination_bound (exact_promises F 12 (lit< tt)) 1 (matrix 12 case2) case2 (λ i j li lj d. refl) irreducible_2 all_fit_2.elimination i l)

share_2 : (F : Factor) (i : ℕ) → i < 2 → Near F 18 (units (shares (exact 12) 1 (matrix 12 case2) i) * sum 2 (weight 2 case2)) (12 * weight 2 case2 i)
unfolding matrix
share_2 F i l =
    rw count_2 at
    (share_bound (exact_promises F 12 (lit< tt)) 1 (matrix 12 case2) case2 (λ i j li lj d. refl) irreducible_2 all_fit_2 i l)

exact_3 : (i : ℕ) → i < 3 → units (weights (exact 7) 2 (matrix 7 case3) i) * weight 3 case3 2 ≡ 7 * weight 3 case3 i
unfolding matrix
exact_3 i l = exact_elimination 7 (lit< tt) 2 (matrix 7 case3) case3 (λ i j li lj d. refl) irreducible_3 all_fit_3 i l
