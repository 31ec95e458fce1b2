-- What the elimination asks of its numbers: each operation right within one factor, wherever its operands and its result fit.
-- A number x stands for the whole number val x, counted in units of 1 / one, so that `one` stands for 1; a product and a quotient
-- are multiplied across by `one`. `Fit x` says that x is a number: nothing is promised of an operation without a result.
use Rattle.std.specs.Prelude.{◌≡◌, ◌≢◌, ℕ, zero, suc, ◌+◌, ◌*◌, ◌≤◌, ◌<◌}
use Rattle.basics.specs.Near.{Factor, Near}
use Rattle.markov.specs.Elimination.{Ops, total, quotient_at, next, weights, shares}

-- c is a rounded sum of a and b: exact where one of them is 0, otherwise within one factor
pub record Added (F : Factor) (a b c : ℕ) : Type 0 where
  pub left : a ≡ zero → c ≡ b
  pub right : b ≡ zero → c ≡ a
  pub near : Near F 1 c (a + b)

pub record Promises (F : Factor) {X : Type 0} (O : Ops X) (one : ℕ) (val : X → ℕ) (Fit : X → Type 0) : Type 0 where
  pub one_pos : zero < one
  pub nought_is : val O.nought ≡ zero
  pub unit_is : val O.unit ≡ one
  pub added : (x y : X) → Fit x → Fit y → Fit (O.add x y) → Added F (val x) (val y) (val (O.add x y))
  pub multiplied : (x y : X) → Fit x → Fit y → Fit (O.mul x y) → Near F 1 (one * val (O.mul x y)) (val x * val y)
  pub divided : (x y : X) → Fit x → Fit y → Fit (O.div x y) → zero < val y → Near F 1 (val (O.div x y) * val y) (one * val x)

module _ {X : Type 0} (O : Ops X) (Fit : X → Type 0) where
  -- the numbers met at the step of a matrix on r + 1 states: its entries, the partial sums of the pivot, the quotients, the
  -- products and the entries that result
  pub record FitsOn (r : ℕ) (a : ℕ → ℕ → X) : Type 0 where
    pub entries : (i j : ℕ) → i < suc r → j < suc r → i ≢ j → Fit (a i j)
    pub pivots : (k : ℕ) → k ≤ r → Fit (total O k (λ j. a zero (suc j)))
    pub quotients : (j : ℕ) → j < r → Fit (quotient_at O r a j)
    pub products : (i j : ℕ) → i < r → j < r → i ≢ j → Fit (O.mul (a (suc i) zero) (quotient_at O r a j))
    pub nexts : (i j : ℕ) → i < r → j < r → i ≢ j → Fit (next O r a i j)

  -- the numbers met at that step's part of the back substitution, where w are the weights of its states: the weights, the
  -- products and the partial sums of the products
  pub record FitsBack (r : ℕ) (a : ℕ → ℕ → X) (w : ℕ → X) : Type 0 where
    pub weights_fit : (i : ℕ) → i < suc r → Fit (w i)
    pub terms : (j : ℕ) → j < r → Fit (O.mul (w (suc j)) (a (suc j) zero))
    pub sums : (k : ℕ) → k ≤ r → Fit (total O k (λ j. O.mul (w (suc j)) (a (suc j) zero)))

  -- all numbers met in the elimination of r + 1 states
  abbrev pub AllFit : ℕ → (ℕ → ℕ → X) → Type 0
  AllFit zero a = Fit O.unit
  AllFit (suc r) a = FitsOn (suc r) a × FitsBack (suc r) a (weights O (suc r) a) × AllFit r (next O (suc r) a)

  -- and those met in taking the shares: the partial sums of the weights, and the shares
  pub record AllFitShares (r : ℕ) (a : ℕ → ℕ → X) : Type 0 where
    pub elimination : AllFit r a
    pub sums : (k : ℕ) → k ≤ suc r → Fit (total O k (weights O r a))
    pub shares_fit : (i : ℕ) → i < suc r → Fit (shares O r a i)
