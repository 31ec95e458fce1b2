-- One exact step of the elimination, in whole numbers: state 0 goes, every rate between the others is multiplied by the pivot, and
-- the way through state 0 is added. What balances still balances, and every state still reaches every other. Assumes nothing.
use mathlib.Core.Path.{◌≡◌, ap, ◌∙◌}
use mathlib.Core.Logic.{◌≢◌}
use Prim.Native.Nat.{ℕ, zero, suc, ◌+◌, ◌*◌, ◌<◌, suc-le-suc}
use native.Mathlib.Nat.{mul-pos}
use native.Mathlib.Decide.{ℕ_discrete}
use native.Mathlib.Omega.{arith}
use Rattle.basics.specs.Sum.{sum}
use Rattle.basics.proofs.SumLaws.{sum_cong, sum_lin, sum_pos}
use Rattle.markov.specs.Chain.{Rates, Reaches, here, move, Irreducible, Balanced}

-- the sum of row 0 of r + 1 states
unfoldable pub pivot : ℕ → Rates → ℕ
pivot r g = sum r (λ j. g zero (suc j))

-- the r states other than 0, times the pivot
unfoldable pub reduced : ℕ → Rates → Rates
reduced r g i j = pivot r g * g (suc i) (suc j) + g (suc i) zero * g zero (suc j)

-- ---- balance

module _ (r : ℕ) (g : Rates) where
  inflow : (w : ℕ → ℕ) (j : ℕ)
      → sum r (λ i. w i * reduced r g i j) ≡ pivot r g * sum r (λ i. w i * g (suc i) (suc j)) + g zero (suc j) * sum r (λ i. w i * g (suc i) zero)
  unfolding reduced
  inflow w j = sum_cong r (λ i l. omega arith) ∙ sum_lin r (pivot r g) (g zero (suc j)) (λ i. w i * g (suc i) (suc j)) (λ i. w i * g (suc i) zero)

  outflow : (j : ℕ) → sum r (λ k. reduced r g j k) ≡ pivot r g * sum (suc r) (λ k. g (suc j) k)
  unfolding reduced pivot sum
  outflow j = sum_lin r (pivot r g) (g (suc j) zero) (λ k. g (suc j) (suc k)) (λ k. g zero (suc k)) ∙ omega arith

  -- the balance at state 0: what flows into it from the others is its weight times the pivot
  pub into_zero : {w : ℕ → ℕ} → Balanced (suc r) g w → sum r (λ i. w (suc i) * g (suc i) zero) ≡ pivot r g * w zero
  unfolding sum pivot
  into_zero b = omega (arith, b.at zero (omega arith))

  -- what balances the chain balances, without its first number, the reduced chain
  pub reduced_balanced : {w : ℕ → ℕ} → Balanced (suc r) g w → Balanced r (reduced r g) (λ i. w (suc i))
  unfolding sum
  reduced_balanced {w} b = record {
    at = λ j l.
        rw (inflow (λ i. w (suc i)) j, outflow j, into_zero b) (omega (arith, ap (λ x. pivot r g * x) (b.at (suc j) (suc-le-suc l))));
  }

  -- ---- reachability

  -- a path from state 0 to another has a move that counts in the pivot
  abbrev Leaves : ℕ → Type 0
  Leaves zero = zero < pivot r g
  Leaves (suc i) = Unit {0}

  leave : (i k : ℕ) → k < suc r → zero < g i k → Leaves k → Leaves i
  unfolding pivot
  leave zero zero l p t = t
  leave zero (suc k) l p t = sum_pos r (λ j. g zero (suc j)) k (omega arith) p
  leave (suc i) k l p t = tt

  leaves : {i j : ℕ} → Reaches (suc r) g i j → Leaves j → Leaves i
  leaves here t = t
  leaves (move {i = i} {k = k} l p w) t = leave i k l p (leaves w t)

  pub pivot_pos : zero < r → Irreducible (suc r) g → zero < pivot r g
  pivot_pos l c = leaves (c.path zero 1 (omega arith) (omega arith)) tt

  -- a path to state j + 1, with its visits to 0 cut out; one that starts at 0 is cut after any move to 0
  abbrev Cut : ℕ → ℕ → Type 0
  Cut j zero = (i : ℕ) → zero < g (suc i) zero → Reaches r (reduced r g) i j
  Cut j (suc i) = Reaches r (reduced r g) i j

  cut : (j i k : ℕ) → zero < pivot r g → k < suc r → zero < g i k → Cut j k → Cut j i
  unfolding reduced
  cut j zero zero s l p t = t
  cut j zero (suc k) s l p t = λ i q. move {i = i} {k = k} (omega arith) (omega (arith, mul-pos q p)) t
  cut j (suc i) zero s l p t = t i p
  cut j (suc i) (suc k) s l p t = move {i = i} {k = k} (omega arith) (omega (arith, mul-pos s p)) t

  cuts : (j : ℕ) → zero < pivot r g → {i k : ℕ} → Reaches (suc r) g i k → Cut j k → Cut j i
  cuts j s here t = t
  cuts j s (move {i = i} {k = k} l p w) t = cut j i k s l p (cuts j s w t)

  pub reduced_irreducible : Irreducible (suc r) g → Irreducible r (reduced r g)
  reduced_irreducible c =
      record { path = λ i j hi hj. cuts j (pivot_pos (omega arith) c) (c.path (suc i) (suc j) (suc-le-suc hi) (suc-le-suc hj)) here }

-- ---- other rates for the same chain

reaches_of : {n : ℕ} {g h : Rates} → ((i k : ℕ) → i < n → k < n → i ≢ k → zero < g i k → zero < h i k)
    → {i j : ℕ} → i < n → Reaches n g i j → Reaches n h i j
reaches_of e l here = here
reaches_of {n} {g} {h} e l (move {i = i} {k = k} {j = j} m p t) = go (ℕ_discrete i k) (reaches_of e m t)
  where
    go : Dec (i ≡ k) → Reaches n h k j → Reaches n h i j
    go (yes q) u = rw q u
    go (no q) u = move m (e i k l m q p) u

-- where every positive rate between different states stays positive, every state still reaches every other
pub irreducible_of : {n : ℕ} {g h : Rates} → ((i k : ℕ) → i < n → k < n → i ≢ k → zero < g i k → zero < h i k) → Irreducible n g → Irreducible n h
irreducible_of e c = record { path = λ i j li lj. reaches_of e li (c.path i j li lj) }
