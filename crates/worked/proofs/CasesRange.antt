-- What the field `in_range` of the contract of `solve` says of case 3 (R-7: "every number met on the way, group sums included, lies well inside the
-- range"), one line for each kind of number. Assumes nothing.
use Rattle.std.specs.Prelude.{Ok}
use mathlib.Core.Bool.{true}
use mathlib.Core.Logic.{◌≢◌, ◌⊎◌}
use mathlib.Core.Path.{◌≡◌, refl}
use Prim.Native.Nat.{ℕ, suc, ◌≤◌}
use native.Mathlib.Omega.{arith}
use lib.Dec.{lit<, lit≤}
use lib.IntN.{nat_abs}
use Rattle.basics.specs.Sum.{sum}
use Rattle.basics.specs.Below.{count, all}
use Rattle.scaled.specs.declared.Scaled.{Scaled}
use Rattle.scaled.specs.Scaled.{zero_number, is_scaled}
use Rattle.markov.specs.Closed.{size}
use Rattle.markov.specs.Elimination.{total, pivot_of, quotient_at, next, weights, shares}
use Rattle.markov.specs.Promises.{AllFitShares}
use Rattle.range.specs.Range.{picked}
use Rattle.chain.specs.Meaning.{rate_in}
use Rattle.reach.specs.Reach.{via}
use Rattle.reach.specs.ClosedSets.{settles, is_lowest, first_lowest, lowest_set}
use Rattle.reach.specs.Answer.{set_of}
use Rattle.kernel.specs.Numbers.{ops, times, stage}
use Rattle.solver.specs.Lent.{Lent}
use Rattle.solver.specs.Solve.{set_size, set_entries, shares_of, WellInside, Solved}
use Rattle.worked.specs.Table.{chain3}

set_size_lem : set_size chain3 ≡ 3
unfolding set_size size set_of lowest_set first_lowest is_lowest settles all via rate_in sum count
set_size_lem = refl

abbrev entry : ℕ → ℕ → Scaled
entry = set_entries chain3

module _ {l new : Lent} (s : Solved chain3 l (Ok 28) new) where
  met : AllFitShares ops WellInside 2 entry
  met = rw set_size_lem at (s.in_range 28 refl).numbers_met

  -- the first step: an entry, the pivot, a quotient, a product, a new entry
  pub entry_met : WellInside (entry 2 0)
  entry_met = met.elimination.0.entries 2 0 (lit< tt) (lit< tt) (omega arith)

  pub pivot_met : WellInside (total ops 2 (λ j. entry 0 (suc j)))
  pivot_met = met.elimination.0.pivots 2 (lit≤ tt)

  pub quotient_met : WellInside (quotient_at ops 2 entry 0)
  quotient_met = met.elimination.0.quotients 0 (lit< tt)

  pub product_met : WellInside (times (entry 2 0) (quotient_at ops 2 entry 0))
  product_met = met.elimination.0.products 1 0 (lit< tt) (lit< tt) (omega arith)

  pub next_met : WellInside (next ops 2 entry 1 0)
  next_met = met.elimination.0.nexts 1 0 (lit< tt) (lit< tt) (omega arith)

  -- the way back of that step: a weight, a term, the sum of the terms
  pub weight_met : WellInside (weights ops 2 entry 0)
  weight_met = met.elimination.1.weights_fit 0 (lit< tt)

  pub term_met : WellInside (times (weights ops 2 entry 2) (entry 2 0))
  term_met = met.elimination.1.terms 1 (lit< tt)

  pub back_sum_met : WellInside (total ops 2 (λ j. times (weights ops 2 entry (suc j)) (entry (suc j) 0)))
  back_sum_met = met.elimination.1.sums 2 (lit≤ tt)

  -- the second step, its pivot
  pub second_pivot_met : WellInside (total ops 1 (λ j. next ops 2 entry 0 (suc j)))
  second_pivot_met = met.elimination.2.0.pivots 1 (lit≤ tt)

  -- the sum of the weights, and a share
  pub weight_sum_met : WellInside (total ops 3 (weights ops 2 entry))
  weight_sum_met = met.sums 3 (lit≤ tt)

  pub share_met : WellInside (shares ops 2 entry 0)
  share_met = met.shares_fit 0 (lit< tt)

  -- what `WellInside` says of that share
  pub share_scaled : is_scaled (shares ops 2 entry 0) ≡ true
  share_scaled = share_met.scaled

  pub share_exponent : (shares ops 2 entry 0 ≡ zero_number) ⊎ (nat_abs (shares ops 2 entry 0).e ≤ 13500)
  share_exponent = share_met.exponent

  -- nothing is divided by Zero
  pub second_pivot : pivot_of ops 1 (stage 3 1 entry) ≢ zero_number
  second_pivot = rw set_size_lem at ((s.in_range 28 refl).pivots 1 (omega (arith, set_size_lem)))

  pub weight_sum : total ops 3 (weights ops 2 entry) ≢ zero_number
  weight_sum = rw set_size_lem at (s.in_range 28 refl).total_weight

  -- the sum of all shares
  pub group_sum : WellInside (picked ops (λ i. true) (shares_of chain3) 3)
  group_sum = (s.in_range 28 refl).groups (λ i. true) 3 (lit≤ tt)
