-- The elimination never uses the diagonal: matrices with equal entries between different states give equal weights and
-- shares. Assumes nothing.
use mathlib.Core.Path.{◌≡◌, refl, ap₂}
use mathlib.Core.Logic.{◌≢◌}
use Prim.Native.Nat.{ℕ, zero, suc, ◌<◌, suc-le-suc}
use native.Mathlib.Omega.{arith}
use Rattle.markov.specs.Elimination.{Ops, total, pivot_of, quotient_at, next, weights, shares}

-- equal entries between different states, of r + 1 states
abbrev pub Agree : {X : Type 0} → ℕ → (ℕ → ℕ → X) → (ℕ → ℕ → X) → Type 0
Agree r a b = (i j : ℕ) → i < suc r → j < suc r → i ≢ j → a i j ≡ b i j

module _ {X : Type 0} (O : Ops X) where
  pub total_cong : (n : ℕ) {f g : ℕ → X} → ((i : ℕ) → i < n → f i ≡ g i) → total O n f ≡ total O n g
  unfolding total
  total_cong zero h = refl
  total_cong (suc n) h = ap₂ O.add (total_cong n (λ i l. h i (omega arith))) (h n (omega arith))

  pub row_cong : (r : ℕ) {a b : ℕ → ℕ → X} → Agree r a b → (j : ℕ) → j < r → a zero (suc j) ≡ b zero (suc j)
  row_cong r h j l = h zero (suc j) (omega arith) (suc-le-suc l) (λ e. omega arith)

  pub column_cong : (r : ℕ) {a b : ℕ → ℕ → X} → Agree r a b → (i : ℕ) → i < r → a (suc i) zero ≡ b (suc i) zero
  column_cong r h i l = h (suc i) zero (suc-le-suc l) (omega arith) (λ e. omega arith)

  pub pivot_cong : (r : ℕ) {a b : ℕ → ℕ → X} → Agree r a b → pivot_of O r a ≡ pivot_of O r b
  unfolding pivot_of
  pivot_cong r h = total_cong r (row_cong r h)

  pub next_cong : (r : ℕ) {a b : ℕ → ℕ → X} → Agree (suc r) a b → Agree r (next O (suc r) a) (next O (suc r) b)
  unfolding next quotient_at
  next_cong r h i j li lj d =
      ap₂ O.add (h (suc i) (suc j) (suc-le-suc li) (suc-le-suc lj) (λ e. d (omega arith)))
      (ap₂ O.mul (column_cong (suc r) h i li) (ap₂ O.div (row_cong (suc r) h j lj) (pivot_cong (suc r) h)))

  pub weights_cong : (r : ℕ) {a b : ℕ → ℕ → X} → Agree r a b → (i : ℕ) → i < suc r → weights O r a i ≡ weights O r b i
  unfolding weights
  weights_cong zero h i l = refl
  weights_cong (suc r) h zero l =
      ap₂ O.div (total_cong (suc r) (λ j lj. ap₂ O.mul (weights_cong r (next_cong r h) j lj) (column_cong (suc r) h j lj))) (pivot_cong (suc r) h)
  weights_cong (suc r) h (suc i) l = weights_cong r (next_cong r h) i (omega arith)

  -- kept for R-3
  pub shares_cong : (r : ℕ) {a b : ℕ → ℕ → X} → Agree r a b → (i : ℕ) → i < suc r → shares O r a i ≡ shares O r b i
  unfolding shares
  shares_cong r h i l = ap₂ O.div (weights_cong r h i l) (total_cong (suc r) (weights_cong r h))
