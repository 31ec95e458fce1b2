-- What the theorems on accepted chains ask holds of case 2, and there demands 2 and 3 say this of its written numbers, so that
-- those theorems are not empty. Assumes nothing.
use mathlib.Core.List.{List, [], ◌∷◌}
use mathlib.Core.Logic.{◌≢◌}
use mathlib.Core.Path.{◌≡◌, refl, ap, ◌∙◌}
use Prim.Native.Nat.{ℕ, zero, suc, ◌*◌, ◌^◌, ◌<◌, ◌≤◌}
use native.Mathlib.Nat.{mul-le-mul_left, mul-pos, one-le-pow}
use native.Mathlib.Omega.{arith}
use lib.Dec.{lit<, lit≤}
use lib.ListN.{get_or}
use Rattle.basics.specs.Sum.{sum}
use Rattle.basics.specs.Below.{count, all}
use Rattle.basics.specs.Near.{Near}
use Rattle.scaled.specs.declared.Scaled.{Scaled}
use Rattle.scaled.specs.Scaled.{zero_number}
use Rattle.scaled.specs.Units.{one_number, val, one, factor}
use Rattle.markov.specs.Chain.{Balances}
use Rattle.markov.specs.Closed.{HasAnswer, OnlyClosed, size, member, last, set_weight}
use Rattle.markov.specs.Elimination.{total, pivot_of, weights}
use Rattle.markov.specs.Count.{bound_count}
use Rattle.chain.specs.Rules.{starts_sound, entry_bad, columns_checked, rules_checked, zeros_checked, checked}
use Rattle.chain.specs.Sound.{Accepted}
use Rattle.chain.specs.Meaning.{rate_in}
use Rattle.reach.specs.Reach.{via}
use Rattle.reach.specs.ClosedSets.{settles, is_lowest, first_lowest, second_lowest, lowest_set}
use Rattle.reach.specs.Answer.{one_closed, answered, set_of}
use Rattle.reach.proofs.AnswerLaws.{accepted_answer, answer_set}
use Rattle.kernel.specs.Numbers.{ops, stage}
use Rattle.solver.specs.Solve.{set_size, set_entries, weights_of, shares_of, count_of, Balancing, Accurate, AllInside}
use Rattle.basics.specs.Lists.{table}
use Rattle.scaled.proofs.Laws as laws
use Rattle.solver.proofs.Demands.{balancing, accurate}
use Rattle.solver.proofs.Ranges.{all_fit, in_range}
use Rattle.worked.specs.Table.{chain2, scaled, minus}
use Rattle.worked.proofs.Cases.{cases_hold}

-- ---- the numbers of the table, state by state

pub exact_0 : set_weight 2 (rate_in chain2) (set_of chain2) 0 ≡ 1
unfolding table
exact_0 = ap (λ (xs : List ℕ). get_or xs 0 0) cases_hold.case_2.exact_weights_are

pub exact_1 : set_weight 2 (rate_in chain2) (set_of chain2) 1 ≡ 3
unfolding table
exact_1 = ap (λ (xs : List ℕ). get_or xs 1 0) cases_hold.case_2.exact_weights_are

pub exact_sum_lem : sum 2 (set_weight 2 (rate_in chain2) (set_of chain2)) ≡ 4
unfolding sum
exact_sum_lem = omega (arith, exact_0, exact_1)

-- place i of a list of scaled numbers
abbrev at : ℕ → List Scaled → Scaled
at i xs = get_or xs i zero_number

weight_0 : weights_of chain2 0 ≡ scaled 2863311531 (minus 33)
unfolding table
weight_0 = ap (at 0) cases_hold.case_2.weights_are

weight_1 : weights_of chain2 1 ≡ scaled 2147483648 (minus 31)
unfolding table
weight_1 = ap (at 1) cases_hold.case_2.weights_are

share_0 : shares_of chain2 0 ≡ scaled 2147483648 (minus 33)
unfolding table
share_0 = ap (at 0) cases_hold.case_2.shares_are

share_1 : shares_of chain2 1 ≡ scaled 3221225472 (minus 32)
unfolding table
share_1 = ap (at 1) cases_hold.case_2.shares_are

-- ---- what the theorems ask

pub has_answer_2 : Accepted chain2 × HasAnswer 2 (rate_in chain2)
unfolding answered one_closed first_lowest second_lowest is_lowest settles all checked rules_checked starts_sound columns_checked entry_bad zeros_checked via rate_in sum
has_answer_2 = accepted_answer chain2 refl

-- its closed set has both states, and the last is 1
pub only_2 : OnlyClosed 2 (rate_in chain2) (set_of chain2)
only_2 = answer_set chain2 has_answer_2.0.sound has_answer_2.1

pub size_2 : size 2 (set_of chain2) ≡ 2
unfolding size set_of lowest_set first_lowest is_lowest settles all via rate_in sum count
size_2 = refl

pub last_2 : last 2 (set_of chain2) ≡ 1
unfolding last member size set_of lowest_set first_lowest is_lowest settles all via rate_in sum count
last_2 = refl

pub words_2 : (p : ℕ) → get_or chain2.rates p 0 < 4294967296
words_2 = elim [ zero ↦ lit< tt | suc zero ↦ lit< tt | suc (suc p) ↦ lit< tt ]

-- ---- R-7

pub in_range_2 : AllInside chain2
in_range_2 = in_range has_answer_2.0.sound words_2 only_2.closed

-- the sum of its weights is not Zero
pub total_weight_2 : total ops 2 (weights ops 1 (set_entries chain2)) ≢ zero_number
unfolding set_size
total_weight_2 = rw size_2 at in_range_2.total_weight

-- the pivot of its one step is the rate 3, which is not Zero
pub pivot_2 : pivot_of ops 1 (stage 2 0 (set_entries chain2)) ≢ zero_number
unfolding set_size
pivot_2 = rw size_2 at (in_range_2.pivots 0 (omega (arith, size_2)))

-- ---- demand 2

pub balancing_2 : Balancing 2 (rate_in chain2) (set_of chain2)
balancing_2 = balancing 2 (rate_in chain2) only_2

-- its exact weights balance it
pub weights_balance_2 : Balances 2 (rate_in chain2) (set_weight 2 (rate_in chain2) (set_of chain2))
weights_balance_2 = balancing_2.balances

-- 1 and 3 balance the chain
pub balances_2 : Balances 2 (rate_in chain2) (λ i. get_or (1 ∷ 3 ∷ []) i 0)
unfolding rate_in sum
balances_2 = record {
  balanced = record { at = elim [ zero ↦ λ l. refl | suc zero ↦ λ l. refl | suc (suc j) ↦ λ l. absurd (omega arith) ] };
  state = 0;
  state_below = omega arith;
  not_zero = omega arith;
}

-- and what else balances it is in proportion to them
pub proportion_2 : (w : ℕ → ℕ) → Balances 2 (rate_in chain2) w → w 0 * 3 ≡ w 1 * 1
proportion_2 w b =
    let h : w 0 * set_weight 2 (rate_in chain2) (set_of chain2) 1 ≡ w 1 * set_weight 2 (rate_in chain2) (set_of chain2) 0 = (balancing_2.unique w b).at 0 1 (omega arith) (omega arith) in
    rw (exact_0, exact_1) at h

-- equal weights do not balance it
pub equal_weights_2 : Balances 2 (rate_in chain2) (λ i. 1) → ⊥
equal_weights_2 b = absurd (omega (arith, proportion_2 (λ i. 1) b))

-- ---- demand 3, with K(2) = 8

pub count_2 : count_of chain2 ≡ 8
unfolding count_of set_size
count_2 = ap bound_count size_2 ∙ cases_hold.case_8.1

pub accurate_2 : Accurate 2 (rate_in chain2) (set_of chain2) 8 (weights_of chain2) (shares_of chain2)
accurate_2 = rw count_2 at (accurate chain2 only_2.closed (all_fit has_answer_2.0.sound words_2 only_2.closed))

-- the last weight is 1
pub last_weight_2 : weights_of chain2 1 ≡ one_number
last_weight_2 = rw last_2 at accurate_2.last_weight

-- the computed weights lie within 8 factors of 1 / 3 and 3 / 3
pub weight_0_near : Near factor 8 (val (scaled 2863311531 (minus 33)) * 3) (one * 1)
weight_0_near = rw (weight_0, last_2, exact_0, exact_1) at (accurate_2.weights 0 (omega arith))

pub weight_1_near : Near factor 8 (val (scaled 2147483648 (minus 31)) * 3) (one * 3)
weight_1_near = rw (weight_1, last_2, exact_1) at (accurate_2.weights 1 (omega arith))

-- the shares lie within 2 × 8 + 2 factors of 1 / 4 and 3 / 4
pub share_0_near : Near factor 18 (val (scaled 2147483648 (minus 33)) * 4) (one * 1)
share_0_near = rw (size_2, share_0, exact_0, exact_sum_lem) at (accurate_2.shares 0 (omega arith))

pub share_1_near : Near factor 18 (val (scaled 3221225472 (minus 32)) * 4) (one * 3)
share_1_near = rw (size_2, share_1, exact_1, exact_sum_lem) at (accurate_2.shares 1 (omega arith))

-- demand 3 alone shuts out equal weights, since 1 is not within 8 factors of 1 / 3, and results that are all Zero
some_units : 0 < one * factor.den ^ 8
some_units = mul-pos laws.one_pos (one-le-pow 8 factor.den factor.den_pos)

pub equal_weights_far_2 : {s : ℕ → Scaled} → Accurate 2 (rate_in chain2) (set_of chain2) 8 (λ i. one_number) s → ⊥
equal_weights_far_2 a = omega (arith, near, two, some_units)
  where
    near : one * 3 * factor.den ^ 8 ≤ one * 1 * factor.num ^ 8
    near = (rw (last_2, exact_0, exact_1, laws.one_value) at (a.weights 0 (omega arith))).under.bound

    two : one * factor.num ^ 8 ≤ one * (2 * factor.den ^ 8)
    two = mul-le-mul_left one (laws.factor_mild 8 (lit≤ tt)).at_most_2

pub zero_weights_far_2 : {s : ℕ → Scaled} → Accurate 2 (rate_in chain2) (set_of chain2) 8 (λ i. zero_number) s → ⊥
zero_weights_far_2 a = omega (arith, far, some_units)
  where
    far : one * 1 * factor.den ^ 8 ≤ 0 * 3 * factor.num ^ 8
    far = (rw (last_2, exact_0, exact_1, laws.zero_value) at (a.weights 0 (omega arith))).over.bound
