-- The theorems on joint chains used on case 2 beside itself, and on two parts with power-on states. Assumes nothing.
use mathlib.Core.Bool.{Bool, true, false}
use mathlib.Core.List.{List, [], ◌∷◌}
use mathlib.Core.Path.{◌≡◌, refl, ap, ◌∙◌}
use Prim.Native.Nat.{ℕ, zero, suc, ◌*◌, ◌<◌}
use native.Mathlib.Omega.{arith}
use lib.Dec.{lit<}
use lib.ListN.{get_or}
use Rattle.basics.specs.Sum.{sum, prod}
use Rattle.basics.specs.Below.{count, all, put}
use Rattle.basics.specs.Near.{Near}
use Rattle.basics.specs.Lists.{table}
use Rattle.markov.specs.Closed.{OnlyClosed, HasAnswer, size, member, alone, spread, set_weight}
use Rattle.markov.specs.Count.{bound_count}
use Rattle.markov.specs.Weight.{over, led, leads, moves, weight}
use Rattle.markov.specs.Product.{joint_rate, joint_set}
use Rattle.scaled.specs.declared.Scaled.{Scaled}
use Rattle.scaled.specs.Scaled.{zero_number}
use Rattle.scaled.specs.Units.{val, one, factor}
use Rattle.chain.specs.Rows.{Rows, rows}
use Rattle.chain.specs.Rules.{starts_sound, entry_bad, columns_checked, rules_checked, zeros_checked, checked}
use Rattle.chain.specs.Sound.{Accepted}
use Rattle.chain.specs.Meaning.{rate_in}
use Rattle.reach.specs.Reach.{via}
use Rattle.reach.specs.ClosedSets.{settles, is_lowest, first_lowest, second_lowest, lowest_set}
use Rattle.reach.specs.Answer.{one_closed, answered, set_of}
use Rattle.reach.proofs.AnswerLaws.{accepted_answer, answer_set}
use Rattle.solver.specs.Solve.{set_size, weights_of, shares_of, count_of, Accurate}
use Rattle.solver.proofs.Demands.{accurate}
use Rattle.solver.proofs.Ranges.{all_fit}
use Rattle.joined.specs.Joined.{joined, JointChain}
use Rattle.joined.proofs.JoinedLaws.{joint_chain}
use Rattle.joined.proofs.Cases.{two_two}
use Rattle.worked.specs.Table.{chain2, chain22, scaled, minus}
use Rattle.worked.proofs.Cases.{cases_hold}
use Rattle.worked.proofs.CasesDemands.{has_answer_2, only_2, exact_0, exact_1, exact_sum_lem}
use Rattle.worked.specs.SideBySide.{ProductShares}
use Rattle.worked.proofs.JoinedSolved.{near_products}

-- ---- two parts with power-on states

-- 0 is left for good, 0 to 1 rate 5, 1 to 2 rate 3, 2 to 1 rate 1; and 0 and 2 are, 0 to 1 rate 2, 1 to 3 rate 1, 2 to 0 rate 1, 3 to 1 rate 4
abbrev three : Rows
three = rows 3 (0 ∷ 1 ∷ 2 ∷ 3 ∷ []) (1 ∷ 2 ∷ 1 ∷ []) (5 ∷ 3 ∷ 1 ∷ [])

abbrev four : Rows
four = rows 4 (0 ∷ 1 ∷ 2 ∷ 3 ∷ 4 ∷ []) (1 ∷ 3 ∷ 0 ∷ 1 ∷ []) (2 ∷ 1 ∷ 1 ∷ 4 ∷ [])

has_three : Accepted three × HasAnswer 3 (rate_in three)
unfolding answered one_closed first_lowest second_lowest is_lowest settles all checked rules_checked starts_sound columns_checked entry_bad zeros_checked via rate_in sum
has_three = accepted_answer three refl

has_four : Accepted four × HasAnswer 4 (rate_in four)
unfolding answered one_closed first_lowest second_lowest is_lowest settles all checked rules_checked starts_sound columns_checked entry_bad zeros_checked via rate_in sum
has_four = accepted_answer four refl

only_three : OnlyClosed 3 (rate_in three) (set_of three)
only_three = answer_set three has_three.0.sound has_three.1

only_four : OnlyClosed 4 (rate_in four) (set_of four)
only_four = answer_set four has_four.0.sound has_four.1

-- their joint chain of 12 states
pub beside : JointChain three four (joined three four)
beside = joint_chain (record { first_accepted = has_three.0; second_accepted = has_four.0; order = lit< tt })

abbrev set : ℕ → Bool
set = joint_set 4 (set_of three) (set_of four)

-- has one closed set, the states 1 × 4 + 1, 1 × 4 + 3, 2 × 4 + 1 and 2 × 4 + 3
pub beside_only : OnlyClosed 12 (rate_in (joined three four)) set
beside_only = beside.side_by_side.answer (set_of three) (set_of four) only_three only_four

pub beside_set : table 12 set ≡ false ∷ false ∷ false ∷ false ∷ false ∷ true ∷ false ∷ true ∷ false ∷ true ∷ false ∷ true ∷ []
unfolding table joint_set set_of lowest_set first_lowest is_lowest settles all via rate_in sum
beside_set = refl

-- the exact weights of the parts, and those of the joint chain by its own spanning trees
abbrev three_weight : ℕ → ℕ
three_weight = set_weight 3 (rate_in three) (set_of three)

abbrev four_weight : ℕ → ℕ
four_weight = set_weight 4 (rate_in four) (set_of four)

pub parts_weights : (table 3 three_weight ≡ 0 ∷ 1 ∷ 3 ∷ []) × (table 4 four_weight ≡ 0 ∷ 4 ∷ 0 ∷ 1 ∷ [])
unfolding table set_weight spread weight over led leads moves alone member size set_of lowest_set first_lowest is_lowest settles all put via rate_in sum prod count
parts_weights = (refl, refl)

-- their sums, and the weights that are used below
parts_sums : (sum 3 three_weight ≡ 4) × (sum 4 four_weight ≡ 5) × (three_weight 2 ≡ 3) × (four_weight 0 ≡ 0) × (four_weight 1 ≡ 4)
unfolding set_weight spread weight over led leads moves alone member size set_of lowest_set first_lowest is_lowest settles all put via rate_in sum prod count
parts_sums = (refl, refl, refl, refl, refl)

pub beside_weights : table 12 (set_weight 12 (joint_rate 4 (rate_in three) (rate_in four)) set) ≡ 0 ∷ 0 ∷ 0 ∷ 0 ∷ 0 ∷ 36 ∷ 0 ∷ 9 ∷ 0 ∷ 108 ∷ 0 ∷ 27 ∷ []
unfolding table set_weight spread weight over led leads moves alone member size joint_set set_of lowest_set first_lowest is_lowest settles all put via joint_rate rate_in sum prod count
beside_weights = refl

-- so the share of 2 × 4 + 1 is the product of 3 / 4 and 4 / 5, and that of 2 × 4 + 0, where the second part is left for good, is 0
abbrev beside_weight : ℕ → ℕ
beside_weight = set_weight 12 (rate_in (joined three four)) set

pub beside_share : beside_weight 9 * (4 * 5) ≡ 3 * 4 * sum 12 beside_weight
beside_share =
    rw (parts_sums.0, parts_sums.1, parts_sums.2, parts_sums.4) at
    (beside.side_by_side.shares (set_of three) (set_of four) only_three only_four 2 1 (lit< tt) (lit< tt))

pub beside_outside : beside_weight 8 * (4 * 5) ≡ 0
beside_outside =
    (rw (parts_sums.0, parts_sums.1, parts_sums.2, parts_sums.3) at
    (beside.side_by_side.shares (set_of three) (set_of four) only_three only_four 2 0 (lit< tt) (lit< tt)))
    ∙ omega arith

-- ---- case 2 beside itself

has_22 : Accepted chain22 × HasAnswer 4 (rate_in chain22)
unfolding answered one_closed first_lowest second_lowest is_lowest settles all checked rules_checked starts_sound columns_checked entry_bad zeros_checked via rate_in sum
has_22 = accepted_answer chain22 refl

pub joint_22 : JointChain chain2 chain2 chain22
joint_22 = rw two_two at (joint_chain (record { first_accepted = has_answer_2.0; second_accepted = has_answer_2.0; order = lit< tt }))

only_22 : OnlyClosed 4 (rate_in chain22) (set_of chain22)
only_22 = answer_set chain22 has_22.0.sound has_22.1

size_22 : size 4 (joint_set 2 (set_of chain2) (set_of chain2)) ≡ 4
unfolding size joint_set set_of lowest_set first_lowest is_lowest settles all via rate_in sum count
size_22 = refl

words_22 : (p : ℕ) → get_or chain22.rates p 0 < 4294967296
words_22 = elim [
  | zero ↦ lit< tt
  | suc zero ↦ lit< tt
  | suc (suc zero) ↦ lit< tt
  | suc (suc (suc zero)) ↦ lit< tt
  | suc (suc (suc (suc zero))) ↦ lit< tt
  | suc (suc (suc (suc (suc zero)))) ↦ lit< tt
  | suc (suc (suc (suc (suc (suc zero))))) ↦ lit< tt
  | suc (suc (suc (suc (suc (suc (suc zero)))))) ↦ lit< tt
  | suc (suc (suc (suc (suc (suc (suc (suc p))))))) ↦ lit< tt
]

count_22 : count_of chain22 ≡ 64
unfolding count_of set_size bound_count size set_of lowest_set first_lowest is_lowest settles all via rate_in sum count
count_22 = refl

accurate_22 : Accurate 4 (rate_in chain22) (set_of chain22) 64 (weights_of chain22) (shares_of chain22)
accurate_22 = rw count_22 at (accurate chain22 only_22.closed (all_fit has_22.0.sound words_22 only_22.closed))

pub near_products_22 : ProductShares 2 2 (rate_in chain2) (rate_in chain2) (set_of chain2) (set_of chain2) 64 (shares_of chain22)
near_products_22 = near_products joint_22.side_by_side only_2 only_2 only_22 accurate_22

share_1 : shares_of chain22 1 ≡ scaled 3221225471 (minus 34)
unfolding table
share_1 = ap (λ (xs : List Scaled). get_or xs 1 zero_number) cases_hold.case_2_twice.shares_are

-- share 0 × 2 + 1 lies within 2 × 64 + 4 factors of 1 / 4 × 3 / 4
pub share_1_near : Near factor 132 (val (scaled 3221225471 (minus 34)) * (4 * 4)) (one * (1 * 3))
share_1_near = rw (size_22, share_1, exact_sum_lem, exact_0, exact_1) at (near_products_22.near 0 1 (lit< tt) (lit< tt))
