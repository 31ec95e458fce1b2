-- A chain: an order n and the rate i j of the move from state i to state j, for states below n. A rate of 0 means no move.
-- The diagonal does not matter: no definition here depends on the rate from a state to itself.
use Rattle.std.specs.Prelude.{◌≡◌, ℕ, zero, ◌*◌, ◌<◌}
use Rattle.basics.specs.Sum.{sum}

abbrev pub Rates : Type 0
Rates = ℕ → ℕ → ℕ

-- i = j, or positive rates lead from i to j
pub data Reaches (n : ℕ) (rate : Rates) : ℕ → ℕ → Type 0 where
  here : {i : ℕ} → Reaches n rate i i
  move : {i k j : ℕ} → k < n → zero < rate i k → Reaches n rate k j → Reaches n rate i j

-- every state reaches every other
pub record Irreducible (n : ℕ) (rate : Rates) : Type 0 where
  pub path : (i j : ℕ) → i < n → j < n → Reaches n rate i j

-- for each state j the sum of w i × rate i j equals w j × the sum of row j
-- (both sums take in the term of j itself, w j × rate j j: it stands on both sides)
pub record Balanced (n : ℕ) (rate : Rates) (w : ℕ → ℕ) : Type 0 where
  pub at : (j : ℕ) → j < n → sum n (λ i. w i * rate i j) ≡ w j * sum n (λ k. rate j k)

-- a list of whole numbers, not all 0, that balances the chain
pub record Balances (n : ℕ) (rate : Rates) (w : ℕ → ℕ) : Type 0 where
  pub balanced : Balanced n rate w
  pub state : ℕ
  pub state_below : state < n
  pub not_zero : zero < w state

-- for any states i and j, the first list's i times the second's j equals the first's j times the second's i
pub record InProportion (n : ℕ) (v w : ℕ → ℕ) : Type 0 where
  pub at : (i j : ℕ) → i < n → j < n → v i * w j ≡ v j * w i
