-- Document 02, R-3: closed sets of states, when a chain has an answer, and the exact weights "of the set taken alone and 0 elsewhere".
-- A set of states is a test: state i below n is in it if `set i` is true.
use Rattle.std.specs.Prelude.{Bool, true, cond, ◌≡◌, ℕ, zero, suc, ◌-◌, ◌<◌}
use Rattle.basics.specs.Sum.{sum}
use Rattle.basics.specs.Below.{count}
use Rattle.markov.specs.Chain.{Rates, Reaches}
use Rattle.markov.specs.Weight.{weight}
use Rattle.markov.specs.Elimination.{Ops, weights, shares}

-- "Call a non-empty set of states closed if each reaches all the others of the set and nothing outside it."
pub record Closed (n : ℕ) (rate : Rates) (set : ℕ → Bool) : Type 0 where
  pub state : ℕ
  pub below : state < n
  pub inside : set state ≡ true
  pub others : (i j : ℕ) → i < n → j < n → set i ≡ true → set j ≡ true → Reaches n rate i j
  pub nothing_outside : (i j : ℕ) → i < n → j < n → set i ≡ true → Reaches n rate i j → set j ≡ true

-- the set is closed, and every closed set has the same states
pub record OnlyClosed (n : ℕ) (rate : Rates) (set : ℕ → Bool) : Type 0 where
  pub closed : Closed n rate set
  pub only : (other : ℕ → Bool) → Closed n rate other → (i : ℕ) → i < n → other i ≡ set i

-- "A chain now has an answer if and only if it has exactly one closed set."
pub record HasAnswer (n : ℕ) (rate : Rates) : Type 0 where
  pub set : ℕ → Bool
  pub one : OnlyClosed n rate set

-- ---- "the set is solved as a chain of its own in state order"

-- how many states below n are in the set; at a state of the set, its place: how many of the set come before it
unfoldable pub size : ℕ → (ℕ → Bool) → ℕ
size n set = sum n (λ i. count (set i))

-- the state at place p of the set, whose states are below n; past the last place, no state
unfoldable pub member : ℕ → (ℕ → Bool) → ℕ → ℕ
member zero set p = p
member (suc n) set zero = cond (set zero) zero (suc (member n (λ i. set (suc i)) zero))
member (suc n) set (suc p) = suc (member n (λ i. set (suc i)) (cond (set zero) p (suc p)))

-- the set's last state
unfoldable pub last : ℕ → (ℕ → Bool) → ℕ
last n set = member n set (size n set - 1)

module _ {X : Type 0} where
  -- the rates (or the entries of a matrix) between the states of the set, by their places
  unfoldable pub alone : ℕ → (ℕ → Bool) → (ℕ → ℕ → X) → ℕ → ℕ → X
  alone n set a p q = a (member n set p) (member n set q)

  -- what the places of the set were given, each at its state; `nought` at every state outside
  unfoldable pub spread : (ℕ → Bool) → X → (ℕ → X) → ℕ → X
  spread set nought f i = cond (set i) (f (size i set)) nought

-- "the exact weights of the set taken alone and 0 elsewhere"
unfoldable pub set_weight : ℕ → Rates → (ℕ → Bool) → ℕ → ℕ
set_weight n rate set = spread set 0 (weight (size n set) (alone n set rate))

-- ---- the elimination of the set: "States outside it get Zero weight and share"

module _ {X : Type 0} (O : Ops X) where
  unfoldable pub set_weights : ℕ → (ℕ → Bool) → (ℕ → ℕ → X) → ℕ → X
  set_weights n set a = spread set O.nought (weights O (size n set - 1) (alone n set a))

  unfoldable pub set_shares : ℕ → (ℕ → Bool) → (ℕ → ℕ → X) → ℕ → X
  set_shares n set a = spread set O.nought (shares O (size n set - 1) (alone n set a))
