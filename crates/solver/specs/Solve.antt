-- Document 01, changed by R-3, R-4, R-5 and R-7: what solving answers and what that says of the input, what it leaves in every lent place, and
-- what is promised of an accepted chain (the owner's three demands).
use Rattle.std.specs.Prelude.{Bool, true, false, cond, ◌≢◌, ◌⊎◌, ◌↔◌, ◌≡◌, ℕ, ◌+◌, ◌-◌, ◌*◌, ◌≤◌, ◌<◌, pos, nat_abs, replicate, Result}
use Rattle.basics.specs.Sum.{sum}
use Rattle.basics.specs.Near.{Near}
use Rattle.basics.specs.Lists.{table}
use Rattle.refusal.specs.Table.{Verdict, Side, accepts, refuses, of_chain, numbered, verdict, and_then, after}
use Rattle.refusal.specs.declared.Line.{Line}
use Rattle.refusal.specs.declared.Refusal.{Refusal}
use Rattle.markov.specs.Chain.{Rates, Irreducible, Balances, InProportion}
use Rattle.markov.specs.Closed.{OnlyClosed, HasAnswer, size, last, alone, set_weight, set_weights, set_shares}
use Rattle.markov.specs.Weight.{weight}
use Rattle.markov.specs.Elimination as elimination
use Rattle.markov.specs.Elimination.{total, pivot_of}
use Rattle.markov.specs.Count.{bound_count}
use Rattle.markov.specs.Promises.{AllFitShares}
use Rattle.range.specs.Range.{picked}
use Rattle.scaled.specs.declared.Scaled.{Scaled}
use Rattle.scaled.specs.Scaled.{zero_number, is_scaled, rate_of}
use Rattle.scaled.specs.Units.{one_number, val, one, factor}
use Rattle.chain.specs.Rows.{Rows}
use Rattle.chain.specs.Rules.{checked}
use Rattle.chain.specs.Sound.{Accepted, Says}
use Rattle.chain.specs.Meaning.{rate_in}
use Rattle.reach.specs.ClosedSets.{TwoClosed}
use Rattle.reach.specs.Answer.{answered, set_of}
use Rattle.kernel.specs.Numbers.{ops, stage}
use Rattle.kernel.specs.Slices.{Slices, pair, number_at}
use Rattle.solver.specs.Lent.{Lent, enough_in, Roomy}

-- ---- what is computed: "the set is solved as a chain of its own in state order", by the elimination in scaled numbers

-- "A rate is converted exactly": the entry for the move from state i to state j
unfoldable pub entries : Rows → ℕ → ℕ → Scaled
entries c i j = rate_of (rate_in c i j)

-- how many states the closed set has, and the entries for the moves between them, by their places in the set
unfoldable pub set_size : Rows → ℕ
set_size c = size c.order (set_of c)

unfoldable pub set_entries : Rows → ℕ → ℕ → Scaled
set_entries c = alone c.order (set_of c) (entries c)

-- the weights and the shares of all states: Zero outside the set
unfoldable pub weights_of : Rows → ℕ → Scaled
weights_of c = set_weights ops c.order (set_of c) (entries c)

unfoldable pub shares_of : Rows → ℕ → Scaled
shares_of c = set_shares ops c.order (set_of c) (entries c)

-- ---- the answer

-- "K counts its states"
unfoldable pub count_of : Rows → ℕ
count_of c = bound_count (set_size c)

-- Solving tries 1, 2, 3, 4, 14, 5, 6 in that order (document 01, changed by R-5 and R-7): the first refusal, or the bound count
unfoldable pub solved : Rows → Bool → Verdict ℕ
solved c room =
    and_then (checked c) (λ _.
    cond room
    (and_then (answered c) (λ _. accepts (count_of c)))
    (refuses of_chain (numbered 5 0 0)))

-- ---- what is left in memory

-- the numbers f 0 .. f (n - 1)
abbrev pub numbers : ℕ → (ℕ → Scaled) → Slices
numbers n f = pair (table n (λ i. (f i).m)) (table n (λ i. (f i).e))

-- 0 in all of k places
abbrev pub zeros : ℕ → Slices
zeros k = pair (replicate k 0) (replicate k (pos 0))

-- `after` for two slices
abbrev pub after_in : Verdict ℕ → Slices → Slices → Slices
after_in v old new = pair (after v old.m new.m) (after v old.e new.e)

-- ---- demand 1: what each verdict says of the input

-- no refusal applies: the rules hold and no rate is 0, the lent slices are long enough, and the chain has exactly one closed set
pub record Solvable (c : Rows) (l : Lent) : Type 0 where
  pub accepted : Accepted c
  pub room : Roomy c.order l
  pub answer : HasAnswer c.order (rate_in c)

-- a refusal says that the refusals before it do not apply and that this one does; an acceptance that none does
pub data SolveSays (c : Rows) (l : Lent) : Verdict ℕ → Type 0 where
  rule_broken : {side : Side} {line : Line} → Says c (refuses side line) → SolveSays c l (refuses side line)
  no_room : Accepted c → (Roomy c.order l → ⊥) → SolveSays c l (refuses of_chain (numbered 5 0 0))
  two_closed : {i j : ℕ} → Accepted c → Roomy c.order l → TwoClosed c.order (rate_in c) i j → SolveSays c l (refuses of_chain (numbered 6 i j))
  solves : Solvable c l → SolveSays c l (accepts (count_of c))

-- ---- demand 2, for a chain with exactly one closed set

-- the exact weights, 0 outside the set, balance the whole chain, and whatever balances it is in proportion to them, so 0 outside the set
pub record Balancing (n : ℕ) (rate : Rates) (set : ℕ → Bool) : Type 0 where
  pub balances : Balances n rate (set_weight n rate set)
  pub unique : (w : ℕ → ℕ) → Balances n rate w → InProportion n w (set_weight n rate set)
  pub outside : (w : ℕ → ℕ) → Balances n rate w → (i : ℕ) → i < n → set i ≡ false → w i ≡ 0

-- ---- demand 3, for an accepted chain

-- "the computed weight lies within K factors of the exact weight divided by the last state's, the computed share within 2K + n such
-- factors of the exact share", on the set "measured against its last state", so with its number of states for n; divisors multiplied
-- across: `one` is the value 1 in the units of `val`. All of them are scaled numbers, Zero outside the set and never Zero in it; the last
-- state's weight is 1.
pub record Accurate (n : ℕ) (rate : Rates) (set : ℕ → Bool) (count : ℕ) (weight' share' : ℕ → Scaled) : Type 0 where
  pub weights_scaled : (i : ℕ) → i < n → is_scaled (weight' i) ≡ true
  pub shares_scaled : (i : ℕ) → i < n → is_scaled (share' i) ≡ true
  pub weights_outside : (i : ℕ) → i < n → set i ≡ false → weight' i ≡ zero_number
  pub shares_outside : (i : ℕ) → i < n → set i ≡ false → share' i ≡ zero_number
  pub weights_inside : (i : ℕ) → i < n → set i ≡ true → weight' i ≢ zero_number
  pub shares_inside : (i : ℕ) → i < n → set i ≡ true → share' i ≢ zero_number
  pub last_weight : weight' (last n set) ≡ one_number
  pub weights : (i : ℕ) → i < n → Near factor count (val (weight' i) * set_weight n rate set (last n set)) (one * set_weight n rate set i)
  pub shares : (i : ℕ) → i < n → Near factor (2 * count + size n set) (val (share' i) * sum n (set_weight n rate set)) (one * set_weight n rate set i)

-- ---- R-7, for an accepted chain: "every number met on the way, group sums included, lies well inside the range"

-- a scaled number that is Zero, or has an e from -13500 to 13500 (the range runs from -16384 to 16383). By crate `range` every number met is
-- 0 or lies from 2^-13300 to 2^13300 (`margin`); with an m of 32 digits its e is then from -13332 to 13332 (`exponent_within` of `scaled`: 32 more);
-- 13500 is the round number above.
pub record WellInside (x : Scaled) : Type 0 where
  pub scaled : is_scaled x ≡ true
  pub exponent : (x ≡ zero_number) ⊎ (nat_abs x.e ≤ 13500)

pub record AllInside (c : Rows) : Type 0 where
  -- entries, partial sums of the pivots, quotients, products, new entries, terms and partial sums of the back substitution, weights,
  -- partial sums of the weights, shares: where an operation gave no number, the pair that stands in for it is no scaled number
  pub numbers_met : AllFitShares ops WellInside (set_size c - 1) (set_entries c)
  -- nothing is divided by Zero: neither by the pivot of a step nor by the sum of the weights
  pub pivots : (k : ℕ) → k + 1 < set_size c → pivot_of ops (set_size c - (k + 1)) (stage (set_size c) k (set_entries c)) ≢ zero_number
  pub total_weight : total ops (set_size c) (elimination.weights ops (set_size c - 1) (set_entries c)) ≢ zero_number
  -- the sum, from Zero with the state rising, of those shares below k that a test picks
  pub groups : (test : ℕ → Bool) (k : ℕ) → k ≤ c.order → WellInside (picked ops test (shares_of c) k)

-- ---- where every state reaches every other, document 01's own condition, R-3 changes nothing

-- all states are the set, and K, the weights and the shares, exact and computed, are those of the whole chain
pub record WholeChain (c : Rows) : Type 0 where
  pub set : (i : ℕ) → i < c.order → set_of c i ≡ true
  pub count : count_of c ≡ bound_count c.order
  pub exact : (i : ℕ) → i < c.order → set_weight c.order (rate_in c) (set_of c) i ≡ weight c.order (rate_in c) i
  pub weights : (i : ℕ) → i < c.order → weights_of c i ≡ elimination.weights ops (c.order - 1) (entries c) i
  pub shares : (i : ℕ) → i < c.order → shares_of c i ≡ elimination.shares ops (c.order - 1) (entries c) i

-- ---- the contract of `solve`, with the lent slices as they were and as they are at exit

pub record Solved (c : Rows) (old : Lent) (r : Result ℕ Refusal) (new : Lent) : Type 0 where
  pub answer : verdict r ≡ solved c (enough_in c.order old)
  pub says : SolveSays c old (verdict r)
  pub acceptance : Solvable c old ↔ (verdict r ≡ accepts (count_of c))
  pub the_set : (k : ℕ) → verdict r ≡ accepts k → OnlyClosed c.order (rate_in c) (set_of c)
  pub irreducible : Accepted c → Irreducible c.order (rate_in c) → HasAnswer c.order (rate_in c) × WholeChain c
  pub work : new.work ≡ after_in (verdict r) old.work (zeros (c.order * c.order))
  pub weights : new.weights ≡ after_in (verdict r) old.weights (numbers c.order (weights_of c))
  pub shares : new.shares ≡ after_in (verdict r) old.shares (numbers c.order (shares_of c))
  pub in_range : (k : ℕ) → verdict r ≡ accepts k → AllInside c
  pub balancing : (set : ℕ → Bool) → OnlyClosed c.order (rate_in c) set → Balancing c.order (rate_in c) set
  pub accurate : (k : ℕ) → verdict r ≡ accepts k → Accurate c.order (rate_in c) (set_of c) k (number_at new.weights) (number_at new.shares)
