-- What the parts of the elimination of a chain ask and leave: loading the matrix, the weights, the shares, clearing.
use Rattle.std.specs.Prelude.{Bool, List, Option, None, Some, ◌++◌, ◌≢◌, ◌≡◌, ℕ, zero, ◌-◌, ◌*◌, ◌≤◌, ◌<◌, pos, get_or, drop, replicate}
use Rattle.markov.specs.Elimination.{weights, shares}
use Rattle.markov.specs.Promises.{AllFitShares}
use Rattle.markov.specs.Closed.{size, alone, set_weights, set_shares}
use Rattle.scaled.specs.declared.Scaled.{Scaled}
use Rattle.scaled.specs.Scaled.{rate_of}
use Rattle.chain.specs.Rows.{Rows, begins, column_at}
use Rattle.chain.specs.Meaning.{rate_in}
use Rattle.kernel.specs.Numbers.{ops, Fit}
use Rattle.kernel.specs.Slices.{Slices, pair, entry_at}
use Rattle.kernel.specs.Kernel.{Square, Kept, Put, Holds}
use Rattle.members.specs.Members.{Listed}

-- ---- the matrix: the rates between the states of a list

-- the rate from state i to state j, converted
abbrev pub matrix_of : Rows → ℕ → ℕ → Scaled
matrix_of c i j = rate_of (rate_in c i j)

-- the entries before place `to` of the state at place a of the list are put into row a of the matrix, each at the place of its column;
-- entries that no listed state has are as they were, and so are the other rows
pub record RowLoaded (c : Rows) (states : List ℕ) (r a to : ℕ) (s s' : Slices) : Type 0 where
  pub kept : Kept s s'
  pub rows : (i j : ℕ) → i < r → j < r → i ≢ a → entry_at r s' i j ≡ entry_at r s i j
  pub put : (p b : ℕ) → begins c (get_or states a 0) ≤ p → p < to → b < r → column_at c p ≡ get_or states b 0
      → entry_at r s' a b ≡ rate_of (get_or c.rates p 0)
  pub none : (b : ℕ) → b < r → ((p : ℕ) → begins c (get_or states a 0) ≤ p → p < to → column_at c p ≢ get_or states b 0)
      → entry_at r s' a b ≡ entry_at r s a b

-- what loading asks: the r states of a set in order, and their places
pub record Loadable (c : Rows) (states : List ℕ) (places : List (Option ℕ)) (r : ℕ) : Type 0 where
  pub set : ℕ → Bool
  pub listed : Listed c.order set r states places

-- the matrix holds the rates between the listed states
pub record Loaded (c : Rows) (states : List ℕ) (r : ℕ) (s : Slices) : Type 0 where
  pub entry : (a b : ℕ) → a < r → b < r → entry_at r s a b ≡ matrix_of c (get_or states a 0) (get_or states b 0)

-- the rate x is put into row a at the place of its column, if the column is listed
pub record EntryLoaded (r a : ℕ) (place : Option ℕ) (x : ℕ) (s s' : Slices) : Type 0 where
  pub listed : (b : ℕ) → place ≡ Some b → Put r a b (rate_of x) s s'
  pub kept : Kept s s'
  pub other : place ≡ None → (i j : ℕ) → entry_at r s' i j ≡ entry_at r s i j

-- ---- the elimination and the shares, of a set as a chain of its own

-- the matrix of the rates between the states of the set
abbrev pub set_matrix : Rows → (ℕ → Bool) → ℕ → ℕ → Scaled
set_matrix c set = alone c.order set (matrix_of c)

-- a chain that passes 1 to 4, and a set of r of its states, one at least, for which every number met is a scaled number
pub record Weighable (c : Rows) (set : ℕ → Bool) (r : ℕ) : Type 0 where
  pub size_is : r ≡ size c.order set
  pub some : zero < r
  pub fits : AllFitShares ops Fit (r - 1) (set_matrix c set)

-- the weights and the shares of the set stand in the slices, by place; the work slices keep their lengths
pub record SetSolved (c : Rows) (set : ℕ → Bool) (r : ℕ) (work' weights' shares' : Slices) : Type 0 where
  pub square : Square r work'
  pub weights_are : Holds r (weights ops (r - 1) (set_matrix c set)) weights'
  pub shares_are : Holds r (shares ops (r - 1) (set_matrix c set)) shares'

-- the first k places are 0, the others are as they were
pub record FirstCleared (k : ℕ) (s s' : Slices) : Type 0 where
  pub zeros_m : s'.m ≡ replicate k 0 ++ drop k s.m
  pub zeros_e : s'.e ≡ replicate k (pos 0) ++ drop k s.e

-- the result slices hold the results of all states, Zero outside the set; the work places are 0
pub record Ran (c : Rows) (set : ℕ → Bool) (work' weights' shares' : Slices) : Type 0 where
  pub work : work' ≡ pair (replicate (c.order * c.order) 0) (replicate (c.order * c.order) (pos 0))
  pub weights_are : Holds c.order (set_weights ops c.order set (matrix_of c)) weights'
  pub shares_are : Holds c.order (set_shares ops c.order set (matrix_of c)) shares'
