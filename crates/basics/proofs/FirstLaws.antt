-- One turn of a search, and what its end says. Assumes nothing.
use Prim.Native.Nat.{ℕ, zero, suc, ◌+◌, ◌-◌, ◌<◌, ◌≤◌}
use mathlib.Core.Bool.{Bool, true, false, cond, false≢true}
use mathlib.Core.Logic.{⊎_elim}
use mathlib.Core.Path.{◌≡◌, refl, sym, ◌∙◌}
use native.Mathlib.Nat.{eq-or-lt_of_le}
use native.Mathlib.Omega.{arith}
use lib.Dec.{ltb}
use borrow.Author.Tests.{le-ltb}
use Rattle.basics.specs.First.{first_of, first}

module _ (test : ℕ → Bool) (i e : ℕ) where
  pub first_end : e ≤ i → first test i e ≡ i
  first_end h = let z : e - i ≡ 0 = omega arith in rw z

  pub first_here : i < e → test i ≡ true → first test i e ≡ i
  first_here h t = let z : e - i ≡ suc (e - (i + 1)) = omega arith in rw (z, t)

  pub first_next : i < e → test i ≡ false → first test i e ≡ first test (i + 1) e
  first_next h t = let z : e - i ≡ suc (e - (i + 1)) = omega arith in rw (z, t)

-- ---- what the answer of a search says

-- r is the first number from i up to e at which the test holds, or e
pub record IsFirst (test : ℕ → Bool) (i e r : ℕ) : Type 0 where
  pub low : i ≤ r
  pub high : r ≤ e
  pub before : (j : ℕ) → i ≤ j → j < r → test j ≡ false
  pub found : r < e → test r ≡ true

first_of_lem : (test : ℕ → Bool) (k i : ℕ) → IsFirst test i (i + k) (first_of test k i)
first_of_lem test zero i =
    record { low = omega arith; high = omega arith; before = λ j a b. absurd (omega arith); found = λ l. absurd (omega arith) }
first_of_lem test (suc k) i = go (test i) refl (first_of_lem test k (i + 1))
  where
    go : (t : Bool) → test i ≡ t → IsFirst test (i + 1) (i + 1 + k) (first_of test k (i + 1)) → IsFirst test i (i + suc k) (cond t i (first_of test k (i + 1)))
    go true t h = record { low = omega arith; high = omega arith; before = λ j a b. absurd (omega arith); found = λ l. t }
    go false t h = record {
      low = omega (arith, h.low);
      high = omega (arith, h.high);
      before = λ j a b. ⊎_elim (λ (q : i ≡ j). rw (← q) t) (λ l. h.before j (omega arith) b) (eq-or-lt_of_le a);
      found = λ l. h.found (omega arith);
    }

pub first_is : (test : ℕ → Bool) (i e : ℕ) → i ≤ e → IsFirst test i e (first test i e)
first_is test i e l = let z : i + (e - i) ≡ e = omega arith in rw z at (first_of_lem test (e - i) i)

-- where the first is the end, the test holds at none
pub first_none : (test : ℕ → Bool) (i e : ℕ) → i ≤ e → first test i e ≡ e → (j : ℕ) → i ≤ j → j < e → test j ≡ false
first_none test i e l p j a b = (first_is test i e l).before j a (omega arith)

module _ (test : ℕ → Bool) (e : ℕ) where
  f : IsFirst test 0 e (first test 0 e)
  f = first_is test 0 e (omega arith)

  -- the first number is the one at which the test holds and below which it does not
  pub first_at : (r : ℕ) → r < e → test r ≡ true → ((j : ℕ) → j < r → test j ≡ false) → first test 0 e ≡ r
  first_at r l t h = omega (arith, not_lower, not_higher)
    where
      not_lower : first test 0 e < r → ⊥
      not_lower m = false≢true (sym (h _ m) ∙ f.found (omega arith))

      not_higher : r < first test 0 e → ⊥
      not_higher m = false≢true (sym (f.before r (omega arith) m) ∙ t)

  -- and it is the end where the test holds at none
  pub first_nowhere : ((j : ℕ) → j < e → test j ≡ false) → first test 0 e ≡ e
  first_nowhere h = let found : first test 0 e < e → ⊥ = λ l. false≢true (sym (h _ l) ∙ f.found l) in omega (arith, f.high, found)

  pub none_found : ((j : ℕ) → j < e → test j ≡ false) → ltb (first test 0 e) e ≡ false
  none_found h = le-ltb (first test 0 e) e (omega (arith, first_nowhere h))

-- ---- equal tests have the same first

pub first_of_cong : (f h : ℕ → Bool) (k i : ℕ) → ((j : ℕ) → i ≤ j → j < i + k → f j ≡ h j) → first_of f k i ≡ first_of h k i
first_of_cong f h zero i e = refl
first_of_cong f h (suc k) i e =
    rw (e i (omega arith) (omega arith), first_of_cong f h k (i + 1) (λ j a b. e j (omega arith) (omega arith)))

pub first_cong : (f h : ℕ → Bool) (i e : ℕ) → ((j : ℕ) → i ≤ j → j < e → f j ≡ h j) → first f i e ≡ first h i e
first_cong f h i e p = first_of_cong f h (e - i) i (λ j a b. p j a (omega arith))
