-- Tests joined by "and" and "or", from the values of their parts and back; a test at all numbers below n; a value told by a test; a test as a number.
-- Assumes nothing.
use mathlib.Core.Bool.{Bool, true, false, cond, not, ◌&&◌, ◌||◌, false≢true, and-eq-true_iff}
use mathlib.Core.Logic.{◌⊎◌, inl, inr}
use mathlib.Core.Path.{◌≡◌, refl, sym, ap₂, ◌∙◌}
use Prim.Native.Nat.{ℕ, zero, suc, ◌≤◌, ◌<◌}
use native.Mathlib.Omega.{arith}
use native.Mathlib.Decide.{ℕ_discrete}
use borrow.Author.Tests.{not-true, not-false}
use Rattle.basics.specs.Below.{count, all}

pub and_yes : (a b : Bool) → a ≡ true → b ≡ true → (a && b) ≡ true
and_yes a b p q = rw (p, q)

pub and_no_first : (a b : Bool) → a ≡ false → (a && b) ≡ false
and_no_first a b p = rw p

pub and_no : (a b : Bool) → b ≡ false → (a && b) ≡ false
and_no true b p = p
and_no false b p = refl

pub or_yes_first : (a b : Bool) → a ≡ true → (a || b) ≡ true
or_yes_first a b p = rw p

pub or_yes : (a b : Bool) → b ≡ true → (a || b) ≡ true
or_yes true b p = refl
or_yes false b p = p

pub or_no : (a b : Bool) → a ≡ false → b ≡ false → (a || b) ≡ false
or_no a b p q = rw (p, q)

-- neither part holds
pub neither : (a b : Bool) → (a || b) ≡ false → (a ≡ false) × (b ≡ false)
neither true b e = absurd (false≢true (sym e))
neither false b e = (refl, e)

-- the second test decides
pub and_decides : (a b : Bool) → a ≡ true → (a && b) ≡ b
and_decides a b p = rw p

pub or_decides : (a b : Bool) → a ≡ false → (a || b) ≡ b
or_decides a b p = rw p

pub not_so : (a : Bool) → (a ≡ true → ⊥) → a ≡ false
not_so true h = absurd (h refl)
not_so false h = refl

pub is_so : (a : Bool) → (a ≡ false → ⊥) → a ≡ true
is_so true h = refl
is_so false h = absurd (h refl)

pub either : (a b : Bool) → (a || b) ≡ true → (a ≡ true) ⊎ (b ≡ true)
either true b e = inl refl
either false b e = inr e

-- ---- a value told by the test of a choice

pub by_true : {A : Type 0} {b : Bool} {r : A} (x y : A) → b ≡ true → r ≡ x → r ≡ cond b x y
by_true x y t e = rw t e

pub by_false : {A : Type 0} {b : Bool} {r : A} (x y : A) → b ≡ false → r ≡ y → r ≡ cond b x y
by_false x y t e = rw t e

pub both : (b x : Bool) → (b && x) ≡ true → (b ≡ true) × (x ≡ true)
both true x e = (refl, e)
both false x e = absurd (false≢true e)

-- a test that was passed or failed, of which the branch says `not`
-- kept since the port: today the check finds what cited it
pub passed : {r s : Bool} → r ≡ s → not r ≡ false → s ≡ true
passed {r} e n = sym e ∙ not-false r n

pub failed : {r s : Bool} → r ≡ s → not r ≡ true → s ≡ false
failed {r} e n = sym e ∙ not-true r n

-- ---- a test at all numbers below n

pub all_at : (n : ℕ) (p : ℕ → Bool) → all n p ≡ true → (v : ℕ) → v < n → p v ≡ true
unfolding all
all_at zero p e v l = absurd (omega arith)
all_at (suc n) p e v l = go ((and-eq-true_iff (p n) (all n p)).0 e) (ℕ_discrete v n) (all_at n p)
  where
    go : (p n ≡ true) × (all n p ≡ true) → Dec (v ≡ n) → (all n p ≡ true → (v : ℕ) → v < n → p v ≡ true) → p v ≡ true
    go c (yes q) ih = rw q c.0
    go c (no d) ih = ih c.1 v (omega arith)

pub all_of : (n : ℕ) (p : ℕ → Bool) → ((v : ℕ) → v < n → p v ≡ true) → all n p ≡ true
unfolding all
all_of zero p h = refl
all_of (suc n) p h = (and-eq-true_iff (p n) (all n p)).1 (h n (omega arith), all_of n p (λ v l. h v (omega arith)))

pub all_cong : (n : ℕ) {p q : ℕ → Bool} → ((v : ℕ) → v < n → p v ≡ q v) → all n p ≡ all n q
unfolding all
all_cong zero e = refl
all_cong (suc n) e = ap₂ ◌&&◌ (e n (omega arith)) (all_cong n (λ v l. e v (omega arith)))

pub all_fails : (n : ℕ) (p : ℕ → Bool) (v : ℕ) → v < n → p v ≡ false → all n p ≡ false
all_fails n p v l e = not_so (all n p) (λ t. false≢true (sym e ∙ all_at n p t v l))

-- it holds everywhere or fails somewhere
pub all_or_not : (n : ℕ) (p : ℕ → Bool) → (all n p ≡ true) ⊎ ((v : ℕ) × (v < n) × (p v ≡ false))
unfolding all
all_or_not zero p = inl refl
all_or_not (suc n) p = go (p n) refl (all_or_not n p)
  where
    go : (b : Bool) → p n ≡ b → (all n p ≡ true) ⊎ ((v : ℕ) × (v < n) × (p v ≡ false)) → (all (suc n) p ≡ true) ⊎ ((v : ℕ) × (v < suc n) × (p v ≡ false))
    go true e (inl h) = inl (rw (e, h))
    go true e (inr h) = inr (h.0, omega (arith, h.1), h.2)
    go false e h = inr (n, omega arith, e)

-- ---- a test as a number

pub count_most : (b : Bool) → count b ≤ 1
unfolding count
count_most true = omega arith
count_most false = omega arith
