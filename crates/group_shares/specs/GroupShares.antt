-- Document 02, R-1: what solving with a group table answers, and what it leaves in every lent place, for any input.
use Rattle.std.specs.Prelude.{Result, Bool, true, false, cond, ◌&&◌, List, ◌↔◌, ◌≡◌, ℕ, ◌+◌, ◌*◌, ◌<◌, ℤ, length}
use Rattle.basics.specs.Sum.{sum}
use Rattle.basics.specs.Near.{Near}
use Rattle.refusal.specs.Table.{Verdict, Side, accepts, refuses, of_chain, numbered, verdict, and_then}
use Rattle.refusal.specs.declared.Line.{Line}
use Rattle.refusal.specs.declared.Refusal.{Refusal}
use Rattle.markov.specs.Chain.{Rates}
use Rattle.markov.specs.Closed.{OnlyClosed, HasAnswer, set_weight}
use Rattle.scaled.specs.declared.Scaled.{Scaled}
use Rattle.scaled.specs.Scaled.{zero_number, is_scaled}
use Rattle.scaled.specs.Units.{val, one, factor}
use Rattle.chain.specs.Rows.{Rows}
use Rattle.chain.specs.Rules.{checked}
use Rattle.chain.specs.Sound.{Accepted, Says}
use Rattle.chain.specs.Meaning.{rate_in}
use Rattle.reach.specs.ClosedSets.{TwoClosed}
use Rattle.reach.specs.Answer.{set_of}
use Rattle.kernel.specs.Slices.{Slices, pair, number_at}
use Rattle.solver.specs.Lent.{Lent, lent, both_have, enough_in, Places, Roomy}
use Rattle.solver.specs.Solve.{weights_of, shares_of, count_of, solved, numbers, zeros, after_in, Balancing, Accurate, AllInside}
use Rattle.group_table.specs.Rules.{table_checked}
use Rattle.group_table.specs.Sound.{SoundTable, TableSays}
use Rattle.group_table.specs.Sums.{group_places, in_group, group_share}

-- ---- the lent places: those of `solve`, and two slices for the shares of the groups

pub record GroupLent : Type 0 where
  pub solving : Lent
  pub groups : Slices

abbrev pub group_lent : List ℕ → List ℤ → List ℕ → List ℤ → List ℕ → List ℤ → List ℕ → List ℤ → GroupLent
group_lent m e wm we sm se gm ge = record { solving = lent m e wm we sm se; groups = pair gm ge }

-- "Sixteen m and sixteen e places are lent, under 5 .. like the other results"
abbrev pub enough_for : ℕ → GroupLent → Bool
enough_for n l = enough_in n l.solving && both_have group_places (length l.groups.m) (length l.groups.e)

-- the same as plain facts
pub record GroupRoomy (n : ℕ) (l : GroupLent) : Type 0 where
  pub for_solving : Roomy n l.solving
  pub for_groups : Places group_places l.groups

-- ---- the answer

-- 13, 12 and 11 stand "between 4 and 5", behind 14, which is "tried straight after 4": 1, 2, 3, 4, 14, 13, 12, 11, 5, 6 in that order, or
-- the bound count. (`solved` tries 1 to 4 and 14 again, which changes nothing.)
unfoldable pub groups_solved : Rows → List ℕ → Bool → Verdict ℕ
groups_solved c table room = and_then (checked c) (λ _. and_then (table_checked c.order table) (λ _. solved c room))

-- the computed share of group g
unfoldable pub group_shares_of : Rows → List ℕ → ℕ → Scaled
group_shares_of c table = group_share table c.order (shares_of c)

-- ---- what each verdict says of the input

-- no refusal applies
pub record GroupsSolvable (c : Rows) (table : List ℕ) (l : GroupLent) : Type 0 where
  pub accepted : Accepted c
  pub table_sound : SoundTable c.order table
  pub room : GroupRoomy c.order l
  pub answer : HasAnswer c.order (rate_in c)

-- a refusal says that the refusals before it do not apply and that this one does; an acceptance that none does
pub data GroupsSay (c : Rows) (table : List ℕ) (l : GroupLent) : Verdict ℕ → Type 0 where
  rule_broken : {side : Side} {line : Line} → Says c (refuses side line) → GroupsSay c table l (refuses side line)
  table_broken : {side : Side} {line : Line} → Accepted c → TableSays c.order table (refuses side line) → GroupsSay c table l (refuses side line)
  no_room : Accepted c → SoundTable c.order table → (GroupRoomy c.order l → ⊥) → GroupsSay c table l (refuses of_chain (numbered 5 0 0))
  two_closed : {i j : ℕ} → Accepted c → SoundTable c.order table → GroupRoomy c.order l → TwoClosed c.order (rate_in c) i j
      → GroupsSay c table l (refuses of_chain (numbered 6 i j))
  solves : GroupsSolvable c table l → GroupsSay c table l (accepts (count_of c))

-- ---- the accuracy of the groups' shares

-- the exact weight of group g: the sum of the exact weights of its states, 0 outside the closed set
unfoldable pub group_weight : ℕ → Rates → (ℕ → Bool) → List ℕ → ℕ → ℕ
group_weight n rate set table g = sum n (λ i. cond (in_group table g i) (set_weight n rate set i) 0)

-- "Each group share lies within 2K + 2n factors of the exact one", with the whole order n, divisors multiplied across, as in `Accurate`. A
-- group without states in the set is Zero.
pub record GroupsAccurate (n : ℕ) (rate : Rates) (set : ℕ → Bool) (table : List ℕ) (count : ℕ) (share : ℕ → Scaled) : Type 0 where
  pub scaled : (g : ℕ) → g < group_places → is_scaled (share g) ≡ true
  pub outside : (g : ℕ) → g < group_places → ((i : ℕ) → i < n → in_group table g i ≡ true → set i ≡ false) → share g ≡ zero_number
  pub near : (g : ℕ) → g < group_places → Near factor (2 * count + 2 * n) (val (share g) * sum n (set_weight n rate set)) (one * group_weight n rate set table g)

-- ---- the contract of `solve_groups`, with the lent slices as they were and as they are at exit

pub record GroupsSolved (c : Rows) (table : List ℕ) (old : GroupLent) (r : Result ℕ Refusal) (new : GroupLent) : Type 0 where
  pub answer : verdict r ≡ groups_solved c table (enough_for c.order old)
  pub says : GroupsSay c table old (verdict r)
  pub acceptance : GroupsSolvable c table old ↔ (verdict r ≡ accepts (count_of c))
  -- as `solve` leaves them
  pub work : new.solving.work ≡ after_in (verdict r) old.solving.work (zeros (c.order * c.order))
  pub weights : new.solving.weights ≡ after_in (verdict r) old.solving.weights (numbers c.order (weights_of c))
  pub shares : new.solving.shares ≡ after_in (verdict r) old.solving.shares (numbers c.order (shares_of c))
  pub groups : new.groups ≡ after_in (verdict r) old.groups (numbers group_places (group_shares_of c table))
  pub the_set : (k : ℕ) → verdict r ≡ accepts k → OnlyClosed c.order (rate_in c) (set_of c)
  -- every number met; its field `groups` has the partial sums of every group
  pub in_range : (k : ℕ) → verdict r ≡ accepts k → AllInside c
  pub balancing : (set : ℕ → Bool) → OnlyClosed c.order (rate_in c) set → Balancing c.order (rate_in c) set
  pub accurate : (k : ℕ) → verdict r ≡ accepts k
      → Accurate c.order (rate_in c) (set_of c) k (number_at new.solving.weights) (number_at new.solving.shares)
  pub groups_accurate : (k : ℕ) → verdict r ≡ accepts k → GroupsAccurate c.order (rate_in c) (set_of c) table k (number_at new.groups)
