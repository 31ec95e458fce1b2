-- The states of a set, listed.
use Rattle.std.specs.Prelude.{Bool, true, false, List, ◌≡◌, ℕ, ◌<◌, Option, Some, None, length, get_or}
use Rattle.markov.specs.Closed.{size, member}

-- the r states of a set below n in rising order, and the place of each state among them: None for one outside
pub record Listed (n : ℕ) (set : ℕ → Bool) (r : ℕ) (list : List ℕ) (places : List (Option ℕ)) : Type 0 where
  pub count : r ≡ size n set
  pub list_long : length list ≡ 64
  pub places_long : length places ≡ 64
  pub state : (p : ℕ) → p < r → get_or list p 0 ≡ member n set p
  pub place : (i : ℕ) → i < n → set i ≡ true → get_or places i None ≡ Some (size i set)
  pub no_place : (i : ℕ) → i < n → set i ≡ false → get_or places i None ≡ None
