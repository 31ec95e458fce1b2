-- The exact weights balance every chain (the Markov chain tree theorem). Assumes nothing.
-- Both sides of the balance at j are the sum, over the ways that give every state a move and lead every state to j, of the product
-- of all moves' rates.
use mathlib.Core.Path.{◌≡◌, refl, sym, ◌∙◌, ap, fun_ext}
use mathlib.Core.Bool.{Bool, true, false, cond, ◌&&◌, ◌||◌}
use Prim.Native.Nat.{ℕ, zero, suc, ◌*◌, ◌<◌}
use native.Mathlib.Omega.{arith}
use native.Mathlib.Decide.{ℕ_discrete}
use lib.Dec.{eqb}
use borrow.Author.Tests.{eq-eqb, ne_eqb}
use Rattle.basics.specs.Sum.{sum, prod}
use Rattle.basics.proofs.SumLaws.{sum_cong, prod_cong}
use Rattle.markov.specs.Chain.{Rates, Balanced}
use Rattle.basics.specs.Below.{count, all, put}
use Rattle.markov.specs.Weight.{over, led, leads, moves, weight}
use Rattle.basics.proofs.TermLaws.{sum_mul, sum_at, prod_out}
use Rattle.markov.proofs.Ways.{put_off, over_cong, over_sum, over_split}
use Rattle.markov.proofs.Led.{one_before}

-- ---- the term of state i does not depend on the move of i

led_put : (t : ℕ) (f : ℕ → ℕ) (i x v : ℕ) → led t (put f i x) i v ≡ led t f i v
unfolding led
led_put zero f i x v = refl
led_put (suc t) f i x v = go (ℕ_discrete v i) (λ w. led_put t f i x w)
  where
    go : Dec (v ≡ i) → ((w : ℕ) → led t (put f i x) i w ≡ led t f i w) → (eqb v i || led t (put f i x) i (put f i x v)) ≡ (eqb v i || led t f i (f v))
    go (yes e) ih = rw (eq-eqb v i e)
    go (no d) ih = rw (put_off f i x v d, ih (f v))

leads_put : (n : ℕ) (f : ℕ → ℕ) (i x : ℕ) → leads n (put f i x) i ≡ leads n f i
unfolding leads
leads_put n f i x = ap (all n) (fun_ext (led_put n f i x))

count_and : (a b : Bool) (x : ℕ) → count (a && b) * x ≡ count a * (count b * x)
unfolding count
count_and true b x = omega arith
count_and false b x = omega arith

module _ (n : ℕ) (rate : Rates) where
  moves_put : (f : ℕ → ℕ) (i x : ℕ) → moves n rate i (put f i x) ≡ moves n rate i f
  unfolding moves
  moves_put f i x = prod_cong n (λ v hv. go v (ℕ_discrete v i))
    where
      go : (v : ℕ) → Dec (v ≡ i) → cond (eqb v i) 1 (rate v (put f i x v)) ≡ cond (eqb v i) 1 (rate v (f v))
      go v (yes e) = rw (eq-eqb v i e)
      go v (no d) = rw (put_off f i x v d)

  term : ℕ → (ℕ → ℕ) → ℕ
  term i f = count (leads n f i) * moves n rate i f

  term_put : (i : ℕ) (f : ℕ → ℕ) (x : ℕ) → term i (put f i x) ≡ term i f
  unfolding term
  term_put i f x = rw (leads_put n f i x, moves_put f i x)

  -- the weight of i times the sum of h: i moves too, and its move k counts h k
  weight_split : (i : ℕ) → i < n → (h : ℕ → ℕ) → weight n rate i * sum n h ≡ over n n (λ f. term i f * h (f i))
  unfolding weight term
  weight_split i hi h =
      ap (λ (x : ℕ). x * sum n h) (over_cong n n _ _ (λ f hf. count_and (eqb (f i) i) (leads n f i) (moves n rate i f)))
      ∙ sym (over_split n n i i hi hi (term i) (term_put i) h)

  -- the product of all moves' rates
  every : (ℕ → ℕ) → ℕ
  every f = prod n (λ v. rate v (f v))

  moves_every : (i : ℕ) → i < n → (f : ℕ → ℕ) → moves n rate i f * rate i (f i) ≡ every f
  unfolding moves every
  moves_every i hi f =
      prod_out n i (λ v. cond (eqb v i) 1 (rate v (f v))) (λ v. rate v (f v)) hi (rw (eq-eqb i i refl)) (λ v hv d. rw (ne_eqb v i d))

  -- what flows out of j, and what flows from i to j
  outflow : (j : ℕ) → j < n → weight n rate j * sum n (rate j) ≡ over n n (λ f. count (leads n f j) * every f)
  unfolding term
  outflow j hj = weight_split j hj (rate j) ∙ over_cong n n _ _ (λ f hf. omega (arith, ap (λ (x : ℕ). count (leads n f j) * x) (moves_every j hj f)))

  inflow : (i j : ℕ) → i < n → j < n → weight n rate i * rate i j ≡ over n n (λ f. count (leads n f i) * count (eqb (f i) j) * every f)
  unfolding term
  inflow i j hi hj =
      ap (λ (x : ℕ). weight n rate i * x) (sym (sum_at n j (rate i) hj))
      ∙ weight_split i hi (λ k. count (eqb k j) * rate i k)
      ∙ over_cong n n _ _ (λ f hf. omega (arith, ap (λ (x : ℕ). count (leads n f i) * count (eqb (f i) j) * x) (moves_every i hi f)))

  balance_at : (j : ℕ) → j < n → sum n (λ i. weight n rate i * rate i j) ≡ weight n rate j * sum n (λ k. rate j k)
  balance_at j hj =
      sum_cong n (λ i hi. inflow i j hi hj)
      ∙ over_sum n n n (λ i f. count (leads n f i) * count (eqb (f i) j) * every f)
      ∙ over_cong n n _ _ (λ f hf. sum_mul n (every f) (λ i. count (leads n f i) * count (eqb (f i) j)) ∙ ap (λ (x : ℕ). x * every f) (one_before n f j hf hj))
      ∙ sym (outflow j hj)

  pub weight_balanced : Balanced n rate (weight n rate)
  weight_balanced = record { at = balance_at }
