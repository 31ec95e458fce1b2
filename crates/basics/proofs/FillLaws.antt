-- A list filled from the front with one value, and the list of a function's first values. Assumes nothing.
use mathlib.Core.Path.{◌≡◌, refl, ap, ap₂}
use mathlib.Core.List.{List, [], ◌∷◌}
use Prim.Native.Nat.{ℕ, zero, suc, ◌<◌, suc-le-suc, zero-le}
use native.Mathlib.Omega.{arith}
use lib.ListN.{length, get_or, replicate}
use Rattle.basics.specs.Lists.{table}

module _ {A : Type 0} (v : A) where
  pub get_or_replicate : (n i : ℕ) → get_or (replicate n v) i v ≡ v
  get_or_replicate zero i = refl
  get_or_replicate (suc n) zero = refl
  get_or_replicate (suc n) (suc i) = get_or_replicate n i

  pub length_replicate : (n : ℕ) → length (replicate n v) ≡ n
  length_replicate zero = refl
  length_replicate (suc n) = ap suc (length_replicate n)

-- ---- a list that holds f 0 .. f (n - 1) is the table of f

module _ {A : Type 0} (d : A) where
  pub table_is : (n : ℕ) (l : List A) (f : ℕ → A) → length l ≡ n → ((i : ℕ) → i < n → get_or l i d ≡ f i) → l ≡ table n f
  unfolding table
  table_is zero [] f q h = refl
  table_is zero (x ∷ l) f q h = absurd (omega arith)
  table_is (suc n) [] f q h = absurd (omega arith)
  table_is (suc n) (x ∷ l) f q h = ap₂ ◌∷◌ (h zero (suc-le-suc zero-le)) (table_is n l (λ i. f (suc i)) (omega arith) (λ i g. h (suc i) (suc-le-suc g)))

  pub table_length : (n : ℕ) (f : ℕ → A) → length (table n f) ≡ n
  unfolding table
  table_length zero f = refl
  table_length (suc n) f = ap suc (table_length n (λ i. f (suc i)))

  pub table_at : (n : ℕ) (f : ℕ → A) (i : ℕ) → i < n → get_or (table n f) i d ≡ f i
  unfolding table
  table_at zero f i l = absurd (omega arith)
  table_at (suc n) f zero l = refl
  table_at (suc n) f (suc i) l = table_at n (λ i. f (suc i)) i (omega arith)
