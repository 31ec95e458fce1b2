-- What the parts of `check_table` and `sum_shares` ask and leave. No public call cites it.
use Rattle.std.specs.Prelude.{ℕ, ◌≤◌, ◌<◌, List, ◌≡◌, length, get_or}
use Rattle.kernel.specs.Numbers.{Fit}
use Rattle.kernel.specs.Slices.{Slices, number_at}
use Rattle.kernel.specs.Kernel.{Sized}
use Rattle.group_table.specs.Rules.{holders, group_of}
use Rattle.group_table.specs.Sound.{SoundTable}
use Rattle.group_table.specs.Sums.{group_share}

-- the places from `from` to `to` were mapped by f, the others are as they were
pub record Changed (f : ℕ → ℕ) (from to : ℕ) (l l' : List ℕ) : Type 0 where
  pub kept : length l' ≡ length l
  pub inside : (s : ℕ) → from ≤ s → s ≤ to → get_or l' s 0 ≡ f (get_or l s 0)
  pub before : (s : ℕ) → s < from → get_or l' s 0 ≡ get_or l s 0
  pub behind : (s : ℕ) → to < s → get_or l' s 0 ≡ get_or l s 0

-- the place of each state has the number of rows below k that hold it
pub record Counted (table : List ℕ) (k : ℕ) (seen : List ℕ) : Type 0 where
  pub long : length seen ≡ 64
  pub at : (s : ℕ) → s < 64 → get_or seen s 0 ≡ holders table k s

-- the place of each state has its group
pub record LookedUp (n : ℕ) (table : List ℕ) (of : List ℕ) : Type 0 where
  pub at : (s : ℕ) → s < n → get_or of s 0 ≡ group_of table s

-- what the sums ask: a sound table, n shares, sixteen places, and that every partial sum is a scaled number
pub record Summable (n : ℕ) (table : List ℕ) (shares groups : Slices) : Type 0 where
  pub order : n ≤ 64
  pub sound : SoundTable n table
  pub sized : Sized n shares
  pub room : Sized 16 groups
  pub fits : (g k : ℕ) → k ≤ n → Fit (group_share table k (number_at shares) g)
