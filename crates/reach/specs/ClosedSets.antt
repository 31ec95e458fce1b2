-- Document 02, R-3: "Number 6 now means two or more closed sets, with the two lowest of the sets' lowest states as its places", as a
-- computation from a test of which state reaches which, and as facts.
use Rattle.std.specs.Prelude.{Bool, true, false, not, ◌&&◌, ◌||◌, ◌≡◌, ℕ, ◌+◌, ◌<◌}
use Rattle.basics.specs.Below.{all}
use Rattle.basics.specs.First.{first}
use Rattle.markov.specs.Chain.{Rates}
use Rattle.markov.specs.Closed.{Closed}

-- whether all that i reaches reaches i: i is then in a closed set, that of the states it reaches
unfoldable pub settles : ℕ → (ℕ → ℕ → Bool) → ℕ → Bool
settles n reached i = all n (λ j. not (reached i j) || reached j i)

-- whether i is the lowest state of a closed set: it reaches no lower state, and it settles
unfoldable pub is_lowest : ℕ → (ℕ → ℕ → Bool) → ℕ → Bool
is_lowest n reached i = all i (λ j. not (reached i j)) && settles n reached i

-- the lowest of these, and the second lowest; n where there is none
unfoldable pub first_lowest : ℕ → (ℕ → ℕ → Bool) → ℕ
first_lowest n reached = first (is_lowest n reached) 0 n

unfoldable pub second_lowest : ℕ → (ℕ → ℕ → Bool) → ℕ
second_lowest n reached = first (is_lowest n reached) (first_lowest n reached + 1) n

-- the set of the lowest: what it reaches
unfoldable pub lowest_set : ℕ → (ℕ → ℕ → Bool) → ℕ → Bool
lowest_set n reached = reached (first_lowest n reached)

-- ---- as facts

-- a closed set and its lowest state
pub record LowestOf (n : ℕ) (rate : Rates) (set : ℕ → Bool) (i : ℕ) : Type 0 where
  pub closed : Closed n rate set
  pub below : i < n
  pub inside : set i ≡ true
  pub lower : (j : ℕ) → j < i → set j ≡ false

-- two closed sets with lowest states i < j, and no closed set but the first has its lowest state below j
pub record TwoClosed (n : ℕ) (rate : Rates) (i j : ℕ) : Type 0 where
  pub one : ℕ → Bool
  pub one_lowest : LowestOf n rate one i
  pub two : ℕ → Bool
  pub two_lowest : LowestOf n rate two j
  pub order : i < j
  pub none_lower : (set : ℕ → Bool) (k : ℕ) → LowestOf n rate set k → k < j → k ≡ i
