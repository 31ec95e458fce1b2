-- The shares of groups on cases 3 and 7, by evaluation of the definitions, and what the bound says of case 3, so that its theorem is not
-- empty. Assumes nothing.
use mathlib.Core.List.{List}
use mathlib.Core.Path.{◌≡◌, refl, ap}
use Prim.Native.Nat.{ℕ, zero, suc, ◌*◌, ◌<◌}
use native.Mathlib.Omega.{arith}
use lib.Dec.{lit<}
use lib.ListN.{get_or}
use Rattle.basics.specs.Sum.{sum, prod}
use Rattle.basics.specs.Below.{count, all, put}
use Rattle.basics.specs.Near.{Near}
use Rattle.basics.specs.Lists.{table}
use Rattle.scaled.specs.declared.Scaled.{Scaled}
use Rattle.scaled.specs.Scaled.{zero_number, bit_length_up_to, bit_length, is_scaled_at, upward, carried, nearest, rounded_sum, rounded_product, rounded_quotient}
use Rattle.scaled.specs.Scaled.{converted, is_scaled, sum_of, product_of, quotient_of, rate_of}
use Rattle.scaled.specs.Units.{one_number, val, one, factor}
use Rattle.markov.specs.Weight.{over, led, leads, moves, weight}
use Rattle.markov.specs.Elimination as elimination
use Rattle.markov.specs.Count.{bound_count}
use Rattle.markov.specs.Closed.{HasAnswer, OnlyClosed, size, member, alone, spread, set_weight, set_weights, set_shares}
use Rattle.range.specs.Range.{picked}
use Rattle.chain.specs.Rules.{starts_sound, entry_bad, columns_checked, rules_checked, zeros_checked, checked}
use Rattle.chain.specs.Sound.{Accepted}
use Rattle.chain.specs.Meaning.{rate_in}
use Rattle.reach.specs.Reach.{via}
use Rattle.reach.specs.ClosedSets.{settles, is_lowest, first_lowest, second_lowest, lowest_set}
use Rattle.reach.specs.Answer.{one_closed, answered, set_of}
use Rattle.reach.proofs.AnswerLaws.{accepted_answer, answer_set}
use Rattle.kernel.specs.Numbers.{plus, times, divided_by}
use Rattle.solver.specs.Lent.{enough}
use Rattle.solver.specs.Solve.{entries, set_size, weights_of, shares_of, count_of, solved, Accurate}
use Rattle.solver.proofs.Demands.{accurate}
use Rattle.solver.proofs.Ranges.{all_fit, in_range}
use Rattle.group_table.specs.Rules.{row_bad, holders, table_checked, group_of}
use Rattle.group_shares.specs.GroupShares.{groups_solved, group_shares_of, group_weight, GroupsAccurate}
use Rattle.group_shares.proofs.Bound.{groups_accurate}
use Rattle.worked.specs.Table.{chain3, scaled, minus}
use Rattle.worked.specs.Groups.{table3, GroupCases}

pub group_cases_hold : GroupCases
unfolding enough groups_solved group_shares_of group_weight table_checked row_bad holders group_of picked
    solved table weights_of shares_of entries set_size count_of plus times divided_by one_number
    elimination.weights elimination.shares elimination.total elimination.pivot_of elimination.quotient_at elimination.next
    bit_length_up_to bit_length is_scaled_at upward carried nearest rounded_sum rounded_product rounded_quotient converted is_scaled sum_of product_of quotient_of rate_of
    weight over sum prod count put leads led all moves bound_count
    size member alone spread set_weight set_weights set_shares
    checked rules_checked starts_sound columns_checked entry_bad zeros_checked rate_in answered one_closed set_of lowest_set first_lowest second_lowest is_lowest settles via
group_cases_hold = record {
  sixteen = refl;
  fifteen_m = refl;
  fifteen_e = refl;
  order_13_5 = refl;
  order_14_13 = refl;
  accepted = refl;
  groups_are = refl;
  exact_3 = refl;
  exact_15 = refl;
  exact_0 = refl;
  accepted_7 = refl;
  groups_are_7 = refl;
  exact_9 = refl;
  exact_4 = refl;
}

-- ---- what the theorem asks

has_answer_3 : Accepted chain3 × HasAnswer 3 (rate_in chain3)
unfolding answered one_closed first_lowest second_lowest is_lowest settles all checked rules_checked starts_sound columns_checked entry_bad zeros_checked via rate_in sum
has_answer_3 = accepted_answer chain3 refl

pub only_3 : OnlyClosed 3 (rate_in chain3) (set_of chain3)
only_3 = answer_set chain3 has_answer_3.0.sound has_answer_3.1

words_3 : (p : ℕ) → get_or chain3.rates p 0 < 4294967296
words_3 = elim [ zero ↦ lit< tt | suc zero ↦ lit< tt | suc (suc zero) ↦ lit< tt | suc (suc (suc p)) ↦ lit< tt ]

count_3 : count_of chain3 ≡ 28
unfolding count_of set_size size set_of lowest_set first_lowest is_lowest settles all via rate_in sum count bound_count
count_3 = refl

accurate_3 : Accurate 3 (rate_in chain3) (set_of chain3) 28 (weights_of chain3) (shares_of chain3)
accurate_3 = rw count_3 at (accurate chain3 only_3.closed (all_fit has_answer_3.0.sound words_3 only_3.closed))

groups_accurate_3 : GroupsAccurate 3 (rate_in chain3) (set_of chain3) table3 28 (group_shares_of chain3 table3)
groups_accurate_3 = groups_accurate chain3 table3 28 only_3.closed (in_range has_answer_3.0.sound words_3 only_3.closed) accurate_3.shares_scaled accurate_3.shares

-- ---- and what it says: within 2 × 28 + 2 × 3 factors of 48 / 56 and 8 / 56

pub exact_sum_lem : sum 3 (set_weight 3 (rate_in chain3) (set_of chain3)) ≡ 56
unfolding weight over sum prod count put leads led all moves size member alone spread set_weight set_of lowest_set first_lowest is_lowest settles via rate_in
exact_sum_lem = refl

pub group_3_near : Near factor 62 (val (scaled 3681400539 (minus 32)) * 56) (one * 48)
group_3_near =
    let share : group_shares_of chain3 table3 3 ≡ scaled 3681400539 (minus 32) = unfold table in ap (λ (xs : List Scaled). get_or xs 3 zero_number) group_cases_hold.groups_are in
    rw (share, exact_sum_lem, group_cases_hold.exact_3) at (groups_accurate_3.near 3 (omega arith))

pub group_15_near : Near factor 62 (val (scaled 2454267026 (minus 34)) * 56) (one * 8)
group_15_near =
    let share : group_shares_of chain3 table3 15 ≡ scaled 2454267026 (minus 34) = unfold table in ap (λ (xs : List Scaled). get_or xs 15 zero_number) group_cases_hold.groups_are in
    rw (share, exact_sum_lem, group_cases_hold.exact_15) at (groups_accurate_3.near 15 (omega arith))
