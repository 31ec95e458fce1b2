-- Rounded sums, and one rounded step of the elimination, from what each operation promises. Assumes nothing.
use mathlib.Core.Path.{◌≡◌, refl}
use mathlib.Core.Logic.{◌≢◌}
use Prim.Native.Nat.{ℕ, zero, suc, pred, ◌+◌, ◌*◌, ◌≤◌, ◌<◌, suc-le-suc}
use native.Mathlib.Nat.{le_refl, mul-pos, mul-zero}
use native.Mathlib.Omega.{arith}
use Rattle.basics.specs.Sum.{sum}
use Rattle.basics.specs.Near.{Factor, Near}
use Rattle.basics.proofs.SumLaws.{sum_last, mul_sum}
use Rattle.basics.proofs.NearLaws.{near_same, near_eq, near_sym, near_trans, near_more, near_add, near_sum, near_scale, near_cancel, near_zero, near_pos, near_quot}
use Rattle.markov.specs.Chain.{Rates, Irreducible}
use Rattle.markov.specs.Weight.{weight}
use Rattle.markov.specs.Elimination.{Ops, total, pivot_of, quotient_at, next, weights}
use Rattle.markov.proofs.StepCounts.{mark, positives}
use Rattle.markov.specs.Promises.{Added, Promises, FitsOn, FitsBack}
use Rattle.markov.proofs.Balance.{weight_balanced}
use Rattle.markov.proofs.CountLaws.{positives_last, positives_mono, no_positives, no_positives_at, positives_pos}
use Rattle.markov.proofs.Positive.{weight_pos}
use Rattle.markov.proofs.Step.{pivot, reduced, into_zero, pivot_pos}
use Rattle.basics.proofs.TermLaws.{sum_none}

zero_right : (k x : ℕ) → zero < k → k * x ≡ zero → x ≡ zero
zero_right k zero p e = refl
zero_right k (suc x) p e = absurd (omega (arith, mul-pos {m = k} {n = suc x} p (omega arith)))

-- ---- rounded sums

add_near : {F : Factor} {c : ℕ} (a b s f : ℕ) → Added F a f b → Near F (pred c) a s → (c ≡ zero → s ≡ zero) → Near F (pred (c + mark f)) b (s + f)
unfolding mark
add_near a b s zero A h z = near_more (omega arith) (near_eq h (A.right refl) (omega arith))
add_near {c = zero} a b s (suc f) A h z = near_eq (near_same {x = suc f} zero) (A.left (near_zero (rw (z refl) at h))) (omega (arith, z refl))
add_near {c = suc c} a b s (suc f) A h z = near_more (omega arith) (near_trans A.near (near_add h (near_same (pred (suc c)))))

module _ {F : Factor} {X : Type 0} {O : Ops X} {one : ℕ} {val : X → ℕ} {Fit : X → Type 0} (P : Promises F O one val Fit) where
  -- a rounded sum is off by one factor less than it has positive terms
  pub total_near : (n : ℕ) (f : ℕ → X) → ((j : ℕ) → j < n → Fit (f j)) → ((k : ℕ) → k ≤ n → Fit (total O k f))
      → Near F (pred (positives n (λ j. val (f j)))) (val (total O n f)) (sum n (λ j. val (f j)))
  unfolding total sum positives
  total_near zero f hf ht = rw P.nought_is (near_same zero)
  total_near (suc n) f hf ht =
      rw (sum_last n (λ j. val (f j)), positives_last n (λ j. val (f j)))
      (add_near (val (total O n f)) (val (total O (suc n) f)) (sum n (λ j. val (f j))) (val (f n))
      (P.added (total O n f) (f n) (ht n (omega arith)) (hf n (omega arith)) (ht (suc n) (le_refl _)))
      (total_near n f (λ j l. hf j (omega arith)) (λ k l. ht k (omega arith)))
      (no_positives n (λ j. val (f j))))

  -- ---- one rounded step on r + 2 states

  module _ (r : ℕ) (a : ℕ → ℕ → X) (fits : FitsOn O Fit (suc r) a) (c : Irreducible (suc (suc r)) (λ i j. val (a i j))) where
    -- what the computed matrix means, the positive entries of the pivot's row and column, and the computed pivot
    abbrev g : Rates
    g i j = val (a i j)

    abbrev s : ℕ
    s = pivot (suc r) g

    abbrev row : ℕ
    row = positives (suc r) (λ j. val (a zero (suc j)))

    abbrev column : ℕ
    column = positives (suc r) (λ i. val (a (suc i) zero))

    abbrev t : ℕ
    t = val (pivot_of O (suc r) a)

    row_fits : (j : ℕ) → j < suc r → Fit (a zero (suc j))
    row_fits j l = fits.entries zero (suc j) (omega arith) (suc-le-suc l) (λ e. omega arith)

    column_fits : (i : ℕ) → i < suc r → Fit (a (suc i) zero)
    column_fits i l = fits.entries (suc i) zero (suc-le-suc l) (omega arith) (λ e. omega arith)

    s_pos : zero < s
    s_pos = pivot_pos (suc r) g (omega arith) c

    row_pos : zero < row
    unfolding pivot
    row_pos = positives_pos (suc r) (λ j. val (a zero (suc j))) s_pos

    -- some state moves to 0: otherwise nothing would flow into it
    column_pos : zero < column
    column_pos = go column refl
      where
        go : (k : ℕ) → column ≡ k → zero < k
        go zero e =
            let W = weight (suc (suc r)) g in
            let none : sum (suc r) (λ i. W (suc i) * g (suc i) zero) ≡ zero =
            sum_none (suc r) (λ i l. rw (no_positives_at (suc r) (λ i. g (suc i) zero) e i l) (mul-zero (W (suc i)))) in
            omega (arith, into_zero (suc r) g (weight_balanced (suc (suc r)) g), mul-pos s_pos (weight_pos (suc (suc r)) g c zero (omega arith)))
        go (suc k) e = omega arith

    pub pivot_near : Near F (pred row) t s
    unfolding pivot pivot_of
    pivot_near = total_near (suc r) (λ j. a zero (suc j)) row_fits fits.pivots

    t_pos : zero < t
    t_pos = near_pos pivot_near s_pos

    -- the quotient: the pivot's factors and one more
    quotient_near : (j : ℕ) → j < suc r → Near F row (val (quotient_at O (suc r) a j) * s) (one * g zero (suc j))
    unfolding quotient_at pivot_of
    quotient_near j l =
        near_more (omega (arith, row_pos))
        (near_quot (val (quotient_at O (suc r) a j))
        (P.divided (a zero (suc j)) (pivot_of O (suc r) a) (row_fits j l) (fits.pivots (suc r) (le_refl _)) (fits.quotients j l) t_pos)
        (near_same zero) pivot_near)

    -- an entry: the quotient's factors, one for the product, one for the sum
    pub entry_near : (i j : ℕ) → i < suc r → j < suc r → i ≢ j → Near F (row + 2) (s * val (next O (suc r) a i j)) (reduced (suc r) g i j)
    unfolding reduced next
    entry_near i j li lj ne =
        let q : X = quotient_at O (suc r) a j in
        let x : ℕ = g (suc i) zero in
        let p : X = O.mul (a (suc i) zero) q in
        let p1 : Near F 1 (one * (s * val p)) (x * (val q * s)) =
        near_eq (near_scale s (P.multiplied (a (suc i) zero) q (column_fits i li) (fits.quotients j lj) (fits.products i j li lj ne))) (omega arith) (omega arith) in
        let p2 : Near F row (x * (val q * s)) (one * (x * g zero (suc j))) = near_eq (near_scale x (quotient_near j lj)) refl (omega arith) in
        let prod : Near F (row + 1) (s * val p) (x * g zero (suc j)) = near_cancel P.one_pos (near_more (omega arith) (near_trans p1 p2)) in
        let sum : Near F 1 (val (next O (suc r) a i j)) (g (suc i) (suc j) + val p) =
        (P.added (a (suc i) (suc j)) p (fits.entries (suc i) (suc j) (suc-le-suc li) (suc-le-suc lj) (λ e. ne (omega arith))) (fits.products i j li lj ne) (fits.nexts i j li lj ne)).near in
        near_more (omega arith) (near_trans (near_eq (near_scale s sum) refl (omega arith)) (near_add (near_same (row + 1)) prod))

    -- ---- the back substitution of that step

    module _ (back : FitsBack O Fit (suc r) a (weights O (suc r) a)) where
      term : ℕ → X
      term j = O.mul (weights O (suc r) a (suc j)) (a (suc j) zero)

      w : ℕ → ℕ
      w i = val (weights O (suc r) a i)

      term_near : (j : ℕ) → j < suc r → Near F 1 (one * val (term j)) (w (suc j) * g (suc j) zero)
      unfolding term w
      term_near j l =
          P.multiplied (weights O (suc r) a (suc j)) (a (suc j) zero) (back.weights_fit (suc j) (suc-le-suc l)) (column_fits j l) (back.terms j l)

      -- only a positive entry gives a positive product
      terms_le : positives (suc r) (λ j. val (term j)) ≤ column
      terms_le = positives_mono (suc r) (λ j l e. zero_right one (val (term j)) P.one_pos (near_zero (rw (e, mul-zero (w (suc j))) at (term_near j l))))

      -- the pivot's factors and one for the quotient; one for the products, and the sum's
      pub back_near : Near F (row + column) (s * val (weights O (suc r) a zero)) (sum (suc r) (λ j. val (weights O (suc r) a (suc j)) * g (suc j) zero))
      unfolding weights term w pivot_of
      back_near =
          let w0 : ℕ = val (weights O (suc r) a zero) in
          let flow : ℕ = val (total O (suc r) term) in
          let p1 : Near F (pred row) (s * w0) (w0 * t) = near_eq (near_scale w0 (near_sym pivot_near)) (omega arith) refl in
          let p2 : Near F 1 (w0 * t) (one * flow) =
          P.divided (total O (suc r) term) (pivot_of O (suc r) a) (back.sums (suc r) (le_refl _)) (fits.pivots (suc r) (le_refl _)) (back.weights_fit zero (omega arith)) t_pos in
          let p3 : Near F (pred (positives (suc r) (λ j. val (term j)))) (one * flow) (sum (suc r) (λ j. one * val (term j))) =
          near_eq (near_scale one (total_near (suc r) term back.terms back.sums)) refl (mul_sum (suc r) one (λ j. val (term j))) in
          near_more (omega (arith, row_pos, column_pos, terms_le)) (near_trans p1 (near_trans p2 (near_trans p3 (near_sum (suc r) term_near))))
