-- Document 01, "A chain in rows": "State i reaches j if i = j or positive rates lead from i to j", as a computation, and the
-- 64-bit masks that hold it. The relation itself is `Reaches` of crate markov.
use Rattle.std.specs.Prelude.{ℕ, zero, suc, ◌/◌, ◌%◌, ◌^◌, ◌<◌, ◌≤◌, Bool, true, false, ◌&&◌, ◌||◌, List, ◌↔◌, ◌≡◌, ltb, eqb, get_or}
use Rattle.refusal.specs.Table.{Verdict, accepts, refuses}
use Rattle.markov.specs.Chain.{Rates, Reaches}
use Rattle.chain.specs.Rows.{Rows}
use Rattle.chain.specs.Rules.{checked}
use Rattle.chain.specs.Sound.{Accepted}
use Rattle.chain.specs.Meaning.{rate_in}

-- whether i reaches j when only states below k may stand between (the recursion of Floyd and Warshall)
unfoldable pub via : Rates → ℕ → ℕ → ℕ → Bool
via rate zero i j = eqb i j || ltb 0 (rate i j)
via rate (suc k) i j = via rate k i j || (via rate k i k && via rate k k j)

-- whether bit j of a mask stands
abbrev pub stands : ℕ → ℕ → Bool
stands mask j = eqb (mask / 2 ^ j % 2) 1

-- and bit j of the mask at place i
abbrev pub bits : List ℕ → ℕ → ℕ → Bool
bits masks i j = stands (get_or masks i 0) j

abbrev pub is_accepted : Verdict ℕ → Bool
is_accepted (accepts k) = true
is_accepted (refuses side line) = false

-- "The states reached are held as one 64-bit mask for each state": whether bit j of the mask of state i has to stand. No bit
-- stands for a chain refused by 1 to 4 or 14, nor one at n or above, nor one of a mask at n or above.
unfoldable pub reaches : Rows → ℕ → ℕ → Bool
reaches c i j = is_accepted (checked c) && ltb i c.order && ltb j c.order && via (rate_in c) c.order i j

-- every bit of every mask is as the test says
pub record Hold (masks : List ℕ) (test : ℕ → ℕ → Bool) : Type 0 where
  pub bit : (i j : ℕ) → bits masks i j ≡ test i j

-- what the masks mean
pub record ReachMasks (c : Rows) (masks : List ℕ) : Type 0 where
  pub reached : Accepted c → (i j : ℕ) → i < c.order → j < c.order → (bits masks i j ≡ true) ↔ Reaches c.order (rate_in c) i j
  pub none_beyond : (i : ℕ) → c.order ≤ i → get_or masks i 0 ≡ 0
  pub none_refused : (Accepted c → ⊥) → (i : ℕ) → get_or masks i 0 ≡ 0
