-- The theorems used on case 7, whose state 2 is outside the closed set: both error bounds in numbers, balance and uniqueness for the whole
-- chain, and that all numbers met are in range. Assumes nothing.
use mathlib.Core.Bool.{true, false}
use mathlib.Core.List.{List}
use mathlib.Core.Path.{◌≡◌, refl, ap, ◌∙◌}
use Prim.Native.Nat.{ℕ, zero, suc, ◌*◌, ◌<◌}
use native.Mathlib.Omega.{arith}
use lib.Dec.{lit<}
use lib.ListN.{get_or}
use Rattle.basics.specs.Sum.{sum}
use Rattle.basics.specs.Below.{count, all}
use Rattle.basics.specs.Near.{Near}
use Rattle.basics.specs.Lists.{table}
use Rattle.scaled.specs.declared.Scaled.{Scaled}
use Rattle.scaled.specs.Scaled.{zero_number}
use Rattle.scaled.specs.Units.{val, one, factor}
use Rattle.markov.specs.Chain.{Balanced, Balances}
use Rattle.markov.specs.Closed.{OnlyClosed, HasAnswer, size, member, last, alone, set_weight}
use Rattle.markov.specs.Count.{bound_count}
use Rattle.chain.specs.Rules.{starts_sound, entry_bad, columns_checked, rules_checked, zeros_checked, checked}
use Rattle.chain.specs.Sound.{Accepted}
use Rattle.chain.specs.Meaning.{rate_in}
use Rattle.reach.specs.Reach.{via}
use Rattle.reach.specs.ClosedSets.{settles, is_lowest, first_lowest, second_lowest, lowest_set}
use Rattle.reach.specs.Answer.{one_closed, answered, set_of}
use Rattle.reach.proofs.AnswerLaws.{accepted_answer, answer_set}
use Rattle.solver.specs.Solve.{set_size, weights_of, shares_of, count_of, Balancing, Accurate, AllInside}
use Rattle.solver.proofs.Demands.{balancing, accurate}
use Rattle.solver.proofs.Ranges.{all_fit, in_range}
use Rattle.worked.specs.Table.{chain7, scaled, minus}
use Rattle.worked.proofs.Cases.{cases_hold}

-- ---- the numbers of the table, state by state

pub exact_0 : set_weight 3 (rate_in chain7) (set_of chain7) 0 ≡ 1
unfolding table
exact_0 = ap (λ (xs : List ℕ). get_or xs 0 0) cases_hold.case_7.exact_weights_are

pub exact_1 : set_weight 3 (rate_in chain7) (set_of chain7) 1 ≡ 1
unfolding table
exact_1 = ap (λ (xs : List ℕ). get_or xs 1 0) cases_hold.case_7.exact_weights_are

pub exact_2 : set_weight 3 (rate_in chain7) (set_of chain7) 2 ≡ 0
unfolding table
exact_2 = ap (λ (xs : List ℕ). get_or xs 2 0) cases_hold.case_7.exact_weights_are

pub exact_sum_lem : sum 3 (set_weight 3 (rate_in chain7) (set_of chain7)) ≡ 2
unfolding sum
exact_sum_lem = omega (arith, exact_0, exact_1, exact_2)

-- place i of a list of scaled numbers
abbrev at : ℕ → List Scaled → Scaled
at i xs = get_or xs i zero_number

weight_0 : weights_of chain7 0 ≡ scaled 2147483648 (minus 31)
unfolding table
weight_0 = ap (at 0) cases_hold.case_7.weights_are

share_0 : shares_of chain7 0 ≡ scaled 2147483648 (minus 32)
unfolding table
share_0 = ap (at 0) cases_hold.case_7.shares_are

-- ---- its only closed set has the states 0 and 1

pub has_answer_7 : Accepted chain7 × HasAnswer 3 (rate_in chain7)
unfolding answered one_closed first_lowest second_lowest is_lowest settles all checked rules_checked starts_sound columns_checked entry_bad zeros_checked via rate_in sum
has_answer_7 = accepted_answer chain7 refl

pub only_7 : OnlyClosed 3 (rate_in chain7) (set_of chain7)
only_7 = answer_set chain7 has_answer_7.0.sound has_answer_7.1

pub inside_7 : set_of chain7 0 ≡ true
unfolding set_of lowest_set first_lowest is_lowest settles all via rate_in sum
inside_7 = refl

pub outside_7 : set_of chain7 2 ≡ false
unfolding set_of lowest_set first_lowest is_lowest settles all via rate_in sum
outside_7 = refl

pub size_7 : size 3 (set_of chain7) ≡ 2
unfolding size set_of lowest_set first_lowest is_lowest settles all via rate_in sum count
size_7 = refl

pub last_7 : last 3 (set_of chain7) ≡ 1
unfolding last member size set_of lowest_set first_lowest is_lowest settles all via rate_in sum count
last_7 = refl

pub words_7 : (p : ℕ) → get_or chain7.rates p 0 < 4294967296
words_7 = elim [ zero ↦ lit< tt | suc zero ↦ lit< tt | suc (suc zero) ↦ lit< tt | suc (suc (suc p)) ↦ lit< tt ]

pub in_range_7 : AllInside chain7
in_range_7 = in_range has_answer_7.0.sound words_7 only_7.closed

-- ---- demand 2, for the whole chain

pub balancing_7 : Balancing 3 (rate_in chain7) (set_of chain7)
balancing_7 = balancing 3 (rate_in chain7) only_7

-- whatever balances case 7 is equal at 0 and 1, and 0 at 2
pub balanced_7 : (w : ℕ → ℕ) → Balances 3 (rate_in chain7) w → (w 0 ≡ w 1) × (w 2 ≡ 0)
balanced_7 w b =
    let e : w 0 * 1 ≡ w 1 * 1 = rw (exact_0, exact_1) at ((balancing_7.unique w b).at 0 1 (lit< tt) (lit< tt)) in
    (omega arith, balancing_7.outside w b 2 (lit< tt) outside_7)

-- 1 at each state balances the set taken alone
pub ones_balance_set : Balanced 2 (alone 3 (set_of chain7) (rate_in chain7)) (λ p. 1)
unfolding alone member set_of lowest_set first_lowest is_lowest settles all via rate_in sum
ones_balance_set = record { at = elim [ zero ↦ λ l. refl | suc zero ↦ λ l. refl | suc (suc j) ↦ λ l. absurd (omega arith) ] }

-- but not the chain: nothing flows into state 2
pub ones_not_balanced : Balances 3 (rate_in chain7) (λ i. 1) → ⊥
ones_not_balanced b = absurd (omega (arith, (balanced_7 (λ i. 1) b).1))

-- ---- demand 3, with K(2) = 8

pub count_7 : count_of chain7 ≡ 8
unfolding count_of set_size
count_7 = ap bound_count size_7 ∙ cases_hold.case_8.1

pub accurate_7 : Accurate 3 (rate_in chain7) (set_of chain7) 8 (weights_of chain7) (shares_of chain7)
accurate_7 = rw count_7 at (accurate chain7 only_7.closed (all_fit has_answer_7.0.sound words_7 only_7.closed))

-- weight 0 lies within 8 factors of 1 / 1, measured against the set's last state, 1; state 2 has Zero
pub weight_0_near : Near factor 8 (val (scaled 2147483648 (minus 31)) * 1) (one * 1)
weight_0_near = rw (weight_0, last_7, exact_0, exact_1) at (accurate_7.weights 0 (lit< tt))

pub weight_2_zero : weights_of chain7 2 ≡ zero_number
weight_2_zero = accurate_7.weights_outside 2 (lit< tt) outside_7

-- share 0 lies within 2 × 8 + 2 factors of 1 / 2
pub share_0_near : Near factor 18 (val (scaled 2147483648 (minus 32)) * 2) (one * 1)
share_0_near = rw (size_7, share_0, exact_0, exact_sum_lem) at (accurate_7.shares 0 (lit< tt))

pub share_2_zero : shares_of chain7 2 ≡ zero_number
share_2_zero = accurate_7.shares_outside 2 (lit< tt) outside_7
