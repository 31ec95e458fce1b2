-- Laws of finite sums and products. Assumes nothing.
use mathlib.Core.Path.{◌≡◌, refl}
use Prim.Native.Nat.{ℕ, zero, suc, ◌+◌, ◌*◌, ◌^◌, ◌≤◌, ◌<◌, zero-le, suc-le-suc}
use native.Mathlib.Nat.{le_refl, not-suc-le-zero, mul-le-mul, pow-zero, pow-suc, suc-add, zero-add}
use native.Mathlib.Omega.{arith}
use Rattle.basics.specs.Sum.{sum, prod}

pub sum_zero : (f : ℕ → ℕ) → sum zero f ≡ 0
unfolding sum
sum_zero f = refl

pub sum_last : (n : ℕ) (f : ℕ → ℕ) → sum (suc n) f ≡ sum n f + f n
unfolding sum
sum_last zero f = omega arith
sum_last (suc n) f = omega (arith, sum_last n (λ i. f (suc i)))

pub sum_cong : (n : ℕ) {f h : ℕ → ℕ} → ((i : ℕ) → i < n → f i ≡ h i) → sum n f ≡ sum n h
unfolding sum
sum_cong zero e = refl
sum_cong (suc n) e = omega (arith, e zero (suc-le-suc zero-le), sum_cong n (λ i l. e (suc i) (suc-le-suc l)))

pub sum_mono : (n : ℕ) {f h : ℕ → ℕ} → ((i : ℕ) → i < n → f i ≤ h i) → sum n f ≤ sum n h
unfolding sum
sum_mono zero e = zero-le
sum_mono (suc n) e = omega (arith, e zero (suc-le-suc zero-le), sum_mono n (λ i l. e (suc i) (suc-le-suc l)))

pub sum_add : (n : ℕ) (f h : ℕ → ℕ) → sum n (λ i. f i + h i) ≡ sum n f + sum n h
unfolding sum
sum_add zero f h = refl
sum_add (suc n) f h = omega (arith, sum_add n (λ i. f (suc i)) (λ i. h (suc i)))

pub mul_sum : (n k : ℕ) (f : ℕ → ℕ) → sum n (λ i. k * f i) ≡ k * sum n f
unfolding sum
mul_sum zero k f = omega arith
mul_sum (suc n) k f = omega (arith, mul_sum n k (λ i. f (suc i)))

pub sum_lin : (n a b : ℕ) (f h : ℕ → ℕ) → sum n (λ i. a * f i + b * h i) ≡ a * sum n f + b * sum n h
sum_lin n a b f h = simp (sum_add, mul_sum)

-- the terms from a on, and n equal terms
pub sum_split : (a k : ℕ) (f : ℕ → ℕ) → sum (a + k) f ≡ sum a f + sum k (λ q. f (a + q))
unfolding sum
sum_split zero k f = simp zero-add
sum_split (suc a) k f = simp suc-add (omega (arith, sum_split a k (λ q. f (suc q))))

pub sum_same : (n c : ℕ) → sum n (λ i. c) ≡ n * c
unfolding sum
sum_same zero c = omega arith
sum_same (suc n) c = omega (arith, sum_same n c)

-- a term is at most the sum
pub term_le_sum : (n : ℕ) (f : ℕ → ℕ) (i : ℕ) → i < n → f i ≤ sum n f
unfolding sum
term_le_sum zero f i l = absurd (not-suc-le-zero l)
term_le_sum (suc n) f zero l = omega arith
term_le_sum (suc n) f (suc i) l = omega (arith, term_le_sum n (λ k. f (suc k)) i (omega arith))

-- a sum with a positive term is positive
pub sum_pos : (n : ℕ) (f : ℕ → ℕ) (i : ℕ) → i < n → zero < f i → zero < sum n f
sum_pos n f i l p = omega (arith, term_le_sum n f i l)

-- of n terms, each at most u
pub sum_most : (n u : ℕ) (f : ℕ → ℕ) → ((i : ℕ) → i < n → f i ≤ u) → sum n f ≤ n * u
unfolding sum
sum_most zero u f h = zero-le
sum_most (suc n) u f h = omega (arith, h zero (omega arith), sum_most n u (λ i. f (suc i)) (λ i l. h (suc i) (suc-le-suc l)))

-- two sums, one inside the other, exchanged
pub sum_swap : (m n : ℕ) (f : ℕ → ℕ → ℕ) → sum m (λ i. sum n (λ j. f i j)) ≡ sum n (λ j. sum m (λ i. f i j))
unfolding sum
sum_swap zero n f = zeros n
  where
    zeros : (n : ℕ) → 0 ≡ sum n (λ j. 0)
    zeros zero = refl
    zeros (suc n) = omega (arith, zeros n)
sum_swap (suc m) n f = rw (sum_add n (λ j. f zero j) (λ j. sum m (λ i. f (suc i) j))) (omega (arith, sum_swap m n (λ i. f (suc i))))

pub prod_cong : (n : ℕ) {f h : ℕ → ℕ} → ((i : ℕ) → i < n → f i ≡ h i) → prod n f ≡ prod n h
unfolding prod
prod_cong zero e = refl
prod_cong (suc n) {f} {h} e = rw (e zero (suc-le-suc zero-le), prod_cong n {f = λ i. f (suc i)} {h = λ i. h (suc i)} (λ i l. e (suc i) (suc-le-suc l)))

pub prod_most : (n u : ℕ) (f : ℕ → ℕ) → ((i : ℕ) → f i ≤ u) → prod n f ≤ u ^ n
unfolding prod
prod_most zero u f h = rw (pow-zero u) (le_refl 1)
prod_most (suc n) u f h = rw (pow-suc u n) (omega (arith, mul-le-mul (h zero) (prod_most n u (λ i. f (suc i)) (λ i. h (suc i)))))
