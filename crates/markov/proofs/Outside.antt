-- Whatever balances a chain is 0 outside a set that no positive rate leaves and every state reaches. Assumes nothing.
use mathlib.Core.Bool.{Bool, true, false, false≢true}
use mathlib.Core.Logic.{◌⊎◌, inl, inr}
use mathlib.Core.Path.{◌≡◌, refl, sym, ap, ◌∙◌}
use Prim.Native.Nat.{ℕ, zero, suc, ◌*◌, ◌≤◌, ◌<◌, suc-le-suc}
use native.Mathlib.Nat.{eq-zero-or-pos}
use native.Mathlib.Omega.{arith}
use Rattle.basics.specs.Sum.{sum}
use Rattle.basics.proofs.SumLaws.{sum_cong, sum_mono, mul_sum, sum_swap, term_le_sum}
use Rattle.markov.specs.Chain.{Rates, Reaches, here, move, Balanced}
use Rattle.basics.specs.Below.{count}

factor_zero : (x y : ℕ) → 0 < y → x * y ≡ 0 → x ≡ 0
factor_zero zero y p h = refl
factor_zero (suc x) (suc y) p h = absurd (omega arith)
factor_zero (suc x) zero p h = absurd (omega arith)

-- terms that are no smaller, with the same sum, are the same
sum_tight : (n : ℕ) (f g : ℕ → ℕ) → ((i : ℕ) → i < n → f i ≤ g i) → sum n g ≤ sum n f → (i : ℕ) → i < n → g i ≤ f i
unfolding sum
sum_tight zero f g h e i l = absurd (omega arith)
sum_tight (suc n) f g h e zero l = omega (arith, h zero (omega arith), sum_mono n {f = λ i. f (suc i)} {h = λ i. g (suc i)} (λ i l. h (suc i) (suc-le-suc l)))
sum_tight (suc n) f g h e (suc i) l =
    sum_tight n (λ i. f (suc i)) (λ i. g (suc i)) (λ i l. h (suc i) (suc-le-suc l)) (omega (arith, h zero (omega arith))) i (omega arith)

module _ (n : ℕ) (rate : Rates) (inside : ℕ → Bool)
    (kept : (i k : ℕ) → i < n → k < n → inside i ≡ true → 0 < rate i k → inside k ≡ true)
    (w : ℕ → ℕ) (b : Balanced n rate w) where
  -- the flow of i into the set, and all its flow if it is of the set
  into : ℕ → ℕ
  into i = sum n (λ j. count (inside j) * (w i * rate i j))

  all_of : ℕ → ℕ
  all_of i = count (inside i) * (w i * sum n (λ j. rate i j))

  -- a state of the set sends all its flow into the set
  inner : (i : ℕ) → i < n → all_of i ≤ into i
  unfolding into count all_of
  inner i hi = go (inside i) refl
    where
      term : inside i ≡ true → (j : ℕ) → j < n → w i * rate i j ≤ count (inside j) * (w i * rate i j)
      term e j hj = at (inside j) refl (eq-zero-or-pos (rate i j))
        where
          at : (t : Bool) → inside j ≡ t → (rate i j ≡ 0) ⊎ (0 < rate i j) → w i * rate i j ≤ count t * (w i * rate i j)
          at true q z = omega arith
          at false q (inl z) = rw z (omega arith)
          at false q (inr p) = absurd (false≢true (sym q ∙ kept i j hi hj e p))

      go : (t : Bool) → inside i ≡ t → count t * (w i * sum n (λ j. rate i j)) ≤ sum n (λ j. count (inside j) * (w i * rate i j))
      go false e = omega arith
      go true e = omega (arith, mul_sum n (w i) (λ j. rate i j), sum_mono n (term e))

  -- summed over the set, what comes in is what goes out
  whole : sum n into ≡ sum n all_of
  unfolding into all_of
  whole =
      sum_swap n n (λ i j. count (inside j) * (w i * rate i j))
      ∙ sum_cong n (λ j hj. mul_sum n (count (inside j)) (λ i. w i * rate i j) ∙ ap (λ (x : ℕ). count (inside j) * x) (b.at j hj))

  -- so a state outside with a positive rate into the set has weight 0
  edge : (i k : ℕ) → i < n → k < n → inside i ≡ false → inside k ≡ true → 0 < rate i k → w i ≡ 0
  unfolding into count all_of
  edge i k hi hk o e p =
      let tight : into i ≤ all_of i = sum_tight n all_of into inner (omega (arith, whole)) i hi in
      let none : into i ≤ count false * (w i * sum n (λ j. rate i j)) = rw o at tight in
      let one : count (inside k) * (w i * rate i k) ≤ into i = term_le_sum n (λ j. count (inside j) * (w i * rate i j)) k hk in
      let same : count (inside k) ≡ 1 = ap count e in
      factor_zero (w i) (rate i k) p (omega (arith, none, ap (λ (x : ℕ). x * (w i * rate i k)) same))

  -- a state with a positive rate to one of weight 0 has weight 0
  back : (i k : ℕ) → i < n → k < n → w k ≡ 0 → 0 < rate i k → w i ≡ 0
  back i k hi hk z p =
      factor_zero (w i) (rate i k) p
      (omega (arith, term_le_sum n (λ i. w i * rate i k) i hi, b.at k hk, ap (λ (x : ℕ). x * sum n (λ j. rate k j)) z))

  -- whatever balances the chain is 0 at a state outside that reaches the set
  pub outside_zero : {i s : ℕ} → i < n → inside s ≡ true → inside i ≡ false → Reaches n rate i s → w i ≡ 0
  outside_zero hi e o here = absurd (false≢true (sym o ∙ e))
  outside_zero {s = s} hi e o (move {i = i} {k = k} hk p t) = go (inside k) refl (λ q. outside_zero hk e q t)
    where
      go : (u : Bool) → inside k ≡ u → (inside k ≡ false → w k ≡ 0) → w i ≡ 0
      go true q ih = edge i k hi hk o q p
      go false q ih = back i k hi hk (ih q) p
