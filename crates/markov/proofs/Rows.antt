-- From one simple chain to any chain with the same row 0, one row at a time: what holds of a state whatever its own row is, and
-- passes from state to state where every state reaches every other, holds of all states but 0. Assumes nothing.
use mathlib.Core.Path.{◌≡◌, refl, sym, ◌∙◌, ap}
use mathlib.Core.Logic.{◌≢◌}
use mathlib.Core.Bool.{cond, ◌&&◌}
use Prim.Native.Nat.{ℕ, zero, suc, ◌*◌, ◌≤◌, ◌<◌}
use native.Mathlib.Omega.{arith}
use native.Mathlib.Decide.{ℕ_discrete, dec_lt}
use native.Mathlib.Nat.{mul-one, zero-mul, mul-zero}
use lib.Dec.{eqb}
use borrow.Author.Tests.{eq-eqb, ne_eqb}
use Rattle.basics.specs.Sum.{prod}
use Rattle.markov.specs.Chain.{Rates, Reaches, here, move, Irreducible}
use Rattle.basics.specs.Below.{count}
use Rattle.markov.specs.Weight.{leads, moves, weight}
use Rattle.basics.proofs.TermLaws.{sum_only, prod_ones, prod_none}
use Rattle.markov.proofs.Ways.{Below, over_only}
use Rattle.markov.proofs.Led.{iter, Leads, leads_in}
use Rattle.markov.proofs.Balance.{weight_balanced}
use Rattle.markov.proofs.Compare.{weight_own_row}
use Rattle.markov.proofs.Step.{pivot, into_zero}

-- ---- chains in which each state u has one move, to φ u, at rate 1

unfoldable pub only : (ℕ → ℕ) → Rates
only φ u v = count (eqb v (φ u))

-- if that leads every state to i, the weight of i is 1
pub weight_only : (n i : ℕ) (φ : ℕ → ℕ) → i < n → Below n n φ → φ i ≡ i → ((f : ℕ → ℕ) → ((v : ℕ) → v < n → f v ≡ φ v) → Leads n f i) → weight n (only φ) i ≡ 1
unfolding weight moves only count
weight_only n i φ hi hφ stay lead = over_only n n 1 φ _ hφ none some
  where
    none : (f : ℕ → ℕ) (v : ℕ) → v < n → f v ≢ φ v → count (eqb (f i) i && leads n f i) * prod n (λ v. cond (eqb v i) 1 (only φ v (f v))) ≡ 0
    none f v hv d = go (ℕ_discrete v i)
      where
        go : Dec (v ≡ i) → count (eqb (f i) i && leads n f i) * prod n (λ v. cond (eqb v i) 1 (only φ v (f v))) ≡ 0
        go (yes e) = rw (ne_eqb (f i) i (λ q. d (ap f e ∙ q ∙ sym (ap φ e ∙ stay)))) (zero-mul (prod n (λ v. cond (eqb v i) 1 (only φ v (f v)))))
        go (no q) =
            ap (λ (z : ℕ). count (eqb (f i) i && leads n f i) * z)
            (prod_none n v (λ v. cond (eqb v i) 1 (only φ v (f v))) hv (rw (ne_eqb v i q, ne_eqb (f v) (φ v) d)))
            ∙ mul-zero (count (eqb (f i) i && leads n f i))

    some : (f : ℕ → ℕ) → ((v : ℕ) → v < n → f v ≡ φ v) → count (eqb (f i) i && leads n f i) * prod n (λ v. cond (eqb v i) 1 (only φ v (f v))) ≡ 1
    some f h =
        rw (eq-eqb (f i) i (h i hi ∙ stay), leads_in n f i (λ v hv. rw (h v hv) (hφ v hv)) (lead f h), prod_ones n (λ v. cond (eqb v i) 1 (only φ v (f v))) (λ v hv. one v hv (ℕ_discrete v i)))
      where
        one : (v : ℕ) → v < n → Dec (v ≡ i) → cond (eqb v i) 1 (only φ v (f v)) ≡ 1
        one v hv (yes e) = rw (eq-eqb v i e)
        one v hv (no d) = rw (ne_eqb v i d, eq-eqb (f v) (φ v) (h v hv))

module _ (r : ℕ) (g : Rates) where
  abbrev n : ℕ
  n = suc (suc r)

  -- ---- the simple chain: row 0 of g; state 1 moves to 0, the others to 1

  unfoldable pub φ : ℕ → ℕ
  φ zero = 0
  φ (suc zero) = 0
  φ (suc (suc u)) = 1

  unfoldable pub simple : Rates
  simple zero v = g 0 v
  simple (suc u) v = only φ (suc u) v

  simple_0 : weight n simple 0 ≡ 1
  unfolding simple φ iter
  simple_0 = weight_own_row n simple (only φ) 0 row ∙ weight_only n 0 φ (omega arith) below refl lead
    where
      row : (u v : ℕ) → u < n → v < n → u ≢ 0 → simple u v ≡ only φ u v
      row zero v hu hv d = absurd (d refl)
      row (suc u) v hu hv d = refl

      below : Below n n φ
      below zero hv = omega arith
      below (suc zero) hv = omega arith
      below (suc (suc u)) hv = omega arith

      lead : (f : ℕ → ℕ) → ((v : ℕ) → v < n → f v ≡ φ v) → Leads n f 0
      lead f h zero hv = (0, refl)
      lead f h (suc zero) hv = (1, h 1 hv)
      lead f h (suc (suc u)) hv = (2, ap f (h (suc (suc u)) hv) ∙ h 1 (omega arith))

  pub simple_1 : weight n simple 1 ≡ pivot (suc r) simple
  unfolding simple φ only count
  simple_1 =
      let W = weight n simple in
      sym (mul-one (W 1))
      ∙ sym (sum_only (suc r) 0 {f = λ i. W (suc i) * simple (suc i) 0} (omega arith) none)
      ∙ into_zero (suc r) simple (weight_balanced n simple)
      ∙ ap (λ (z : ℕ). pivot (suc r) simple * z) simple_0
      ∙ mul-one (pivot (suc r) simple)
    where
      none : (k : ℕ) → k < suc r → k ≢ 0 → weight n simple (suc k) * simple (suc k) 0 ≡ 0
      none zero hk d = absurd (d refl)
      none (suc k) hk d = mul-zero (weight n simple (suc (suc k)))

  -- ---- the chains between: state 1 moves everywhere, the states 2 .. k + 1 have their rows of g, those above move to 1

  base : Rates
  base zero v = g 0 v
  base (suc zero) v = 1
  base (suc (suc u)) v = count (eqb v 1)

  mix : ℕ → Rates
  mix zero u v = base u v
  mix (suc k) u v = cond (eqb u (suc (suc k))) (g u v) (mix k u v)

  mix_off : (k u v : ℕ) → u ≢ suc (suc k) → mix k u v ≡ mix (suc k) u v
  unfolding mix
  mix_off k u v d = rw (ne_eqb u (suc (suc k)) d)

  mix_at : (k u v : ℕ) → u ≡ suc (suc k) → g u v ≡ mix (suc k) u v
  unfolding mix
  mix_at k u v e = rw (eq-eqb u (suc (suc k)) e)

  mix_0 : (k v : ℕ) → g 0 v ≡ mix k 0 v
  mix_0 zero v = unfold mix base in refl
  mix_0 (suc k) v = mix_0 k v ∙ mix_off k 0 v (λ e. omega arith)

  mix_1 : (k v : ℕ) → 1 ≡ mix k 1 v
  mix_1 zero v = unfold mix base in refl
  mix_1 (suc k) v = mix_1 k v ∙ mix_off k 1 v (λ e. omega arith)

  mix_below : (k u v : ℕ) → u < k → g (suc (suc u)) v ≡ mix k (suc (suc u)) v
  mix_below zero u v l = absurd (omega arith)
  mix_below (suc k) u v l = go (ℕ_discrete u k) (λ l. mix_below k u v l)
    where
      go : Dec (u ≡ k) → (u < k → g (suc (suc u)) v ≡ mix k (suc (suc u)) v) → g (suc (suc u)) v ≡ mix (suc k) (suc (suc u)) v
      go (yes e) ih = mix_at k (suc (suc u)) v (omega arith)
      go (no d) ih = ih (omega arith) ∙ mix_off k (suc (suc u)) v (λ e. d (omega arith))

  mix_above : (k u : ℕ) → k ≤ u → 1 ≡ mix k (suc (suc u)) 1
  mix_above zero u l = unfold mix base count in refl
  mix_above (suc k) u l = mix_above k u (omega arith) ∙ mix_off k (suc (suc u)) 1 (λ e. omega arith)

  -- in all of them every state reaches 1, and 1 moves to every state
  move_to_1 : (k u v : ℕ) → v < n → zero < g u v → Reaches n (mix k) v 1 → Reaches n (mix k) u 1
  move_to_1 k zero v hv p t = move {i = 0} {k = v} hv (rw (← (mix_0 k v)) p) t
  move_to_1 k (suc zero) v hv p t = here
  move_to_1 k (suc (suc u)) v hv p t = go (dec_lt u k)
    where
      go : Dec (u < k) → Reaches n (mix k) (suc (suc u)) 1
      go (yes l) = move {i = suc (suc u)} {k = v} hv (rw (← (mix_below k u v l)) p) t
      go (no l) = move {i = suc (suc u)} {k = 1} (omega arith) (omega (arith, mix_above k u (omega arith))) here

  reaches_1 : (k : ℕ) {u j : ℕ} → Reaches n g u j → Reaches n (mix k) j 1 → Reaches n (mix k) u 1
  reaches_1 k here t = t
  reaches_1 k (move {i = u} {k = v} hv p w) t = move_to_1 k u v hv p (reaches_1 k w t)

  one_more : {h : Rates} {u j i : ℕ} → i < n → zero < h j i → Reaches n h u j → Reaches n h u i
  one_more l p here = move l p here
  one_more l p (move hv q w) = move hv q (one_more l p w)

  mix_irreducible : Irreducible n g → (k : ℕ) → Irreducible n (mix k)
  mix_irreducible c k = record {
    path = λ i j hi hj. one_more hj (omega (arith, mix_1 k j)) (reaches_1 k (c.path i 1 hi (omega arith)) here);
  }

  -- Q h i speaks of state i + 1 of the chain h
  module _ (c : Irreducible n g) (Q : Rates → ℕ → Type 0)
      (carry : (h : Rates) → Irreducible n h → (i j : ℕ) → i < suc r → j < suc r → Q h i → Q h j)
      (change : (h k : Rates) (i : ℕ) → ((u v : ℕ) → u < n → u ≢ suc i → h u v ≡ k u v) → Q h i → Q k i) where
    first_rows : (u v : ℕ) → u < n → u ≢ 1 → simple u v ≡ mix 0 u v
    unfolding mix base simple only φ
    first_rows zero v hu d = refl
    first_rows (suc zero) v hu d = absurd (d refl)
    first_rows (suc (suc u)) v hu d = refl

    last_rows : (u v : ℕ) → u < n → u ≢ 1 → mix r u v ≡ g u v
    last_rows zero v hu d = sym (mix_0 r v)
    last_rows (suc zero) v hu d = absurd (d refl)
    last_rows (suc (suc u)) v hu d = sym (mix_below r u v (omega arith))

    mixed : Q simple 0 → (k : ℕ) → k ≤ r → Q (mix k) 0
    mixed q zero l = change simple (mix 0) 0 first_rows q
    mixed q (suc k) l =
        carry (mix (suc k)) (mix_irreducible c (suc k)) (suc k) 0 (omega arith) (omega arith)
        (change (mix k) (mix (suc k)) (suc k) (λ u v hu d. mix_off k u v d)
        (carry (mix k) (mix_irreducible c k) 0 (suc k) (omega arith) (omega arith) (mixed q k (omega arith))))

    pub row_by_row : Q simple 0 → (i : ℕ) → i < suc r → Q g i
    row_by_row q i hi = carry g c 0 i (omega arith) hi (change (mix r) g 0 last_rows (mixed q r (omega arith)))
