-- Sums and products of which all terms but one are known, and powers. Assumes nothing.
use mathlib.Core.Path.{◌≡◌, refl, sym, ◌∙◌, ap, ap₂}
use mathlib.Core.Logic.{◌≢◌}
use Prim.Native.Nat.{ℕ, zero, suc, ◌*◌, ◌^◌, ◌≤◌, ◌<◌, zero-le, suc-le-suc}
use native.Mathlib.Decide.{dec_lt}
use native.Mathlib.Omega.{arith}
use native.Mathlib.Nat.{le_refl, mul-le-mul, pow-suc, pow-zero, mul-zero, mul-one, zero-mul, one-mul, suc-mul}
use lib.Pow.{pow-add}
use lib.Dec.{eqb}
use borrow.Author.Tests.{eq-eqb, ne_eqb}
use Rattle.basics.specs.Sum.{sum, prod}
use Rattle.basics.proofs.SumLaws.{prod_cong}
use Rattle.basics.specs.Below.{count}

pub sum_mul : (n c : ℕ) (f : ℕ → ℕ) → sum n (λ k. f k * c) ≡ sum n f * c
unfolding sum
sum_mul zero c f = omega arith
sum_mul (suc n) c f = omega (arith, sum_mul n c (λ k. f (suc k)))

-- all terms are 0
pub sum_none : (n : ℕ) {f : ℕ → ℕ} → ((k : ℕ) → k < n → f k ≡ 0) → sum n f ≡ 0
unfolding sum
sum_none zero h = refl
sum_none (suc n) h = omega (arith, h zero (omega arith), sum_none n (λ k l. h (suc k) (suc-le-suc l)))

-- all terms but one are 0
pub sum_only : (n c : ℕ) {f : ℕ → ℕ} → c < n → ((k : ℕ) → k < n → k ≢ c → f k ≡ 0) → sum n f ≡ f c
unfolding sum
sum_only zero c hc h = absurd (omega arith)
sum_only (suc n) zero {f} hc h = omega (arith, sum_none n {f = λ k. f (suc k)} (λ k l. h (suc k) (suc-le-suc l) (λ e. omega arith)))
sum_only (suc n) (suc c) {f} hc h =
    omega (
      arith,
      h zero (omega arith) (λ e. omega arith),
      sum_only n c {f = λ k. f (suc k)} (omega arith) (λ k l d. h (suc k) (suc-le-suc l) (λ e. d (omega arith))),
    )

-- the term at one place, picked out by a test
pub sum_at : (n c : ℕ) (f : ℕ → ℕ) → c < n → sum n (λ k. count (eqb k c) * f k) ≡ f c
unfolding count
sum_at n c f hc =
    sum_only n c {f = λ k. count (eqb k c) * f k} hc (λ k l d. rw (ne_eqb k c d) (zero-mul (f k)))
    ∙ rw (eq-eqb c c refl) (one-mul (f c))

-- a positive sum has a positive term
pub record Positive (k : ℕ) (f : ℕ → ℕ) : Type 0 where
  pub at : ℕ
  pub below : at < k
  pub positive : 0 < f at

pub sum_term : (k : ℕ) (f : ℕ → ℕ) → 0 < sum k f → Positive k f
unfolding sum
sum_term zero f h = absurd (omega arith)
sum_term (suc k) f h =
    elim (dec_lt 0 (f zero)) [
      | yes l ↦ record { at = zero; below = suc-le-suc zero-le; positive = l }
      | no l ↦ (let t = sum_term k (λ i. f (suc i)) (omega arith) in record { at = suc t.at; below = suc-le-suc t.below; positive = t.positive })
    ]

-- the factor at i put back
pub prod_out : (n i : ℕ) (f g : ℕ → ℕ) → i < n → f i ≡ 1 → ((v : ℕ) → v < n → v ≢ i → f v ≡ g v) → prod n f * g i ≡ prod n g
unfolding prod
prod_out zero i f g hi e h = absurd (omega arith)
prod_out (suc n) zero f g hi e h =
    let p : prod n (λ v. f (suc v)) ≡ prod n (λ v. g (suc v)) = prod_cong n (λ v l. h (suc v) (suc-le-suc l) (λ q. omega arith)) in
    rw (e, p) (omega arith)
prod_out (suc n) (suc i) f g hi e h =
    let p : prod n (λ v. f (suc v)) * g (suc i) ≡ prod n (λ v. g (suc v)) =
    prod_out n i (λ v. f (suc v)) (λ v. g (suc v)) (omega arith) e (λ v l d. h (suc v) (suc-le-suc l) (λ q. d (omega arith))) in
    omega (arith, ap₂ ◌*◌ (h zero (omega arith) (λ q. omega arith)) p)

pub prod_ones : (n : ℕ) (f : ℕ → ℕ) → ((k : ℕ) → k < n → f k ≡ 1) → prod n f ≡ 1
unfolding prod
prod_ones zero f h = refl
prod_ones (suc n) f h = ap₂ ◌*◌ (h zero (omega arith)) (prod_ones n (λ k. f (suc k)) (λ k l. h (suc k) (suc-le-suc l)))

pub prod_none : (n k : ℕ) (f : ℕ → ℕ) → k < n → f k ≡ 0 → prod n f ≡ 0
unfolding prod
prod_none zero k f hk e = absurd (omega arith)
prod_none (suc n) zero f hk e = rw e (zero-mul (prod n (λ v. f (suc v))))
prod_none (suc n) (suc k) f hk e = rw (prod_none n k (λ v. f (suc v)) (omega arith) e) (mul-zero (f zero))

-- factors within b / a: products within its power
prod_le : (n a b : ℕ) (f g : ℕ → ℕ) → ((v : ℕ) → v < n → f v * a ≤ g v * b) → prod n f * a ^ n ≤ prod n g * b ^ n
unfolding prod
prod_le zero a b f g h = rw (pow-zero a, pow-zero b) (le_refl 1)
prod_le (suc n) a b f g h =
    rw (pow-suc a n, pow-suc b n)
    (omega (arith, mul-le-mul (h zero (omega arith)) (prod_le n a b (λ v. f (suc v)) (λ v. g (suc v)) (λ v l. h (suc v) (suc-le-suc l)))))

-- the same where the factor at i is 1 in both
pub prod_le_but : (n a b i : ℕ) (f g : ℕ → ℕ) → i < suc n → f i ≡ 1 → g i ≡ 1 → ((v : ℕ) → v < suc n → v ≢ i → f v * a ≤ g v * b)
    → prod (suc n) f * a ^ n ≤ prod (suc n) g * b ^ n
unfolding prod
prod_le_but n a b zero f g hi e e' h =
    rw (e, e') (omega (arith, prod_le n a b (λ v. f (suc v)) (λ v. g (suc v)) (λ v l. h (suc v) (suc-le-suc l) (λ q. omega arith))))
prod_le_but zero a b (suc i) f g hi e e' h = absurd (omega arith)
prod_le_but (suc n) a b (suc i) f g hi e e' h =
    rw (pow-suc a n, pow-suc b n)
    (omega (
      arith,
      mul-le-mul (h zero (omega arith) (λ q. omega arith)) (prod_le_but n a b i (λ v. f (suc v)) (λ v. g (suc v)) (omega arith) e e' (λ v l d. h (suc v) (suc-le-suc l) (λ q. d (omega arith)))),
    ))

pub one_pow : (n : ℕ) → 1 ^ n ≡ 1
one_pow zero = pow-zero 1
one_pow (suc n) = pow-suc 1 n ∙ mul-one (1 ^ n) ∙ one_pow n

pub pow_mul : (a k c : ℕ) → a ^ (k * c) ≡ (a ^ c) ^ k
pow_mul a zero c = ap (λ (x : ℕ). a ^ x) (zero-mul c) ∙ pow-zero a ∙ sym (pow-zero (a ^ c))
pow_mul a (suc k) c =
    ap (λ (x : ℕ). a ^ x) (suc-mul k c) ∙ pow-add a (k * c) c ∙ ap (λ (x : ℕ). x * a ^ c) (pow_mul a k c) ∙ sym (pow-suc (a ^ c) k)
