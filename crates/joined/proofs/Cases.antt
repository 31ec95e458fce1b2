-- Joint chains and the verdicts of joining, by evaluation of the definitions. Assumes nothing.
use mathlib.Core.Bool.{true}
use mathlib.Core.List.{List, [], ◌∷◌}
use mathlib.Core.Path.{◌≡◌, refl}
use Prim.Native.Nat.{ℕ, ◌*◌}
use lib.Dec.{lit<}
use lib.ListN.{replicate}
use Rattle.basics.specs.Sum.{sum, prod}
use Rattle.basics.specs.Below.{count, all, put}
use Rattle.basics.specs.Lists.{table}
use Rattle.refusal.specs.Table.{accepts, refuses, of_chain, numbered}
use Rattle.markov.specs.Weight.{over, led, leads, moves, weight}
use Rattle.markov.specs.Closed.{OnlyClosed, size, member, alone, spread, set_weight}
use Rattle.markov.specs.Product.{joint_rate, joint_set}
use Rattle.chain.specs.Rows.{Rows, rows}
use Rattle.chain.specs.Rules.{checked, rules_checked, zeros_checked, starts_sound, columns_checked, entry_bad}
use Rattle.chain.specs.Meaning.{rate_in}
use Rattle.file_rules.specs.Verdict.{room_to_read}
use Rattle.from_rates.specs.FromRates.{together, from_rates}
use Rattle.joined.specs.Joined.{joined, SideBySide}
use Rattle.joined.specs.Verdict.{of_first, of_second, of_joint, joint_tried, join_verdict}

-- document 01's cases 2 and 3: "n = 2, 0 to 1 rate 3, 1 to 0 rate 1" and "Ring 0 to 1 rate 2, 1 to 2 rate 4, 2 to 0 rate 8"
abbrev pub two : Rows
two = rows 2 (0 ∷ 1 ∷ 2 ∷ []) (1 ∷ 0 ∷ []) (3 ∷ 1 ∷ [])

abbrev ring : Rows
ring = rows 3 (0 ∷ 1 ∷ 2 ∷ 3 ∷ []) (1 ∷ 2 ∷ 0 ∷ []) (2 ∷ 4 ∷ 8 ∷ [])

-- n states without a move, and case 6, with a rate of 0
abbrev pub still : ℕ → List ℕ → Rows
still n starts = rows n starts [] []

abbrev pub zero_rate : Rows
zero_rate = rows 2 (0 ∷ 1 ∷ 2 ∷ []) (1 ∷ 0 ∷ []) (0 ∷ 5 ∷ [])

-- ---- the joint chain

pub two_two : joined two two ≡ rows 4 (0 ∷ 2 ∷ 4 ∷ 6 ∷ 8 ∷ []) (1 ∷ 2 ∷ 0 ∷ 3 ∷ 0 ∷ 3 ∷ 1 ∷ 2 ∷ []) (3 ∷ 3 ∷ 1 ∷ 3 ∷ 1 ∷ 3 ∷ 1 ∷ 1 ∷ [])
unfolding joined from_rates together table joint_rate rate_in sum count
two_two = refl

pub two_ring : joined two ring
    ≡ rows 6 (0 ∷ 2 ∷ 4 ∷ 6 ∷ 8 ∷ 10 ∷ 12 ∷ []) (1 ∷ 3 ∷ 2 ∷ 4 ∷ 0 ∷ 5 ∷ 0 ∷ 4 ∷ 1 ∷ 5 ∷ 2 ∷ 3 ∷ []) (2 ∷ 3 ∷ 4 ∷ 3 ∷ 8 ∷ 3 ∷ 1 ∷ 2 ∷ 1 ∷ 4 ∷ 1 ∷ 8 ∷ [])
unfolding joined from_rates together table joint_rate rate_in sum count
two_ring = refl

-- the other way round the states stand otherwise
pub ring_two : joined ring two
    ≡ rows 6 (0 ∷ 2 ∷ 4 ∷ 6 ∷ 8 ∷ 10 ∷ 12 ∷ []) (1 ∷ 2 ∷ 0 ∷ 3 ∷ 3 ∷ 4 ∷ 2 ∷ 5 ∷ 0 ∷ 5 ∷ 1 ∷ 4 ∷ []) (3 ∷ 2 ∷ 1 ∷ 2 ∷ 3 ∷ 4 ∷ 1 ∷ 4 ∷ 8 ∷ 3 ∷ 8 ∷ 1 ∷ [])
unfolding joined from_rates together table joint_rate rate_in sum count
ring_two = refl

-- a part of one state, on either side
pub one_ring : (joined (still 1 (0 ∷ 0 ∷ [])) ring ≡ ring) × (joined ring (still 1 (0 ∷ 0 ∷ [])) ≡ ring)
unfolding joined from_rates together table joint_rate rate_in sum count
one_ring = (refl, refl)

-- a part with an empty row: one state that two lead to
pub trap_two : joined (rows 3 (0 ∷ 1 ∷ 1 ∷ 2 ∷ []) (1 ∷ 1 ∷ []) (5 ∷ 7 ∷ [])) two
    ≡ rows 6 (0 ∷ 2 ∷ 4 ∷ 5 ∷ 6 ∷ 8 ∷ 10 ∷ []) (1 ∷ 2 ∷ 0 ∷ 3 ∷ 3 ∷ 2 ∷ 2 ∷ 5 ∷ 3 ∷ 4 ∷ []) (3 ∷ 5 ∷ 1 ∷ 5 ∷ 3 ∷ 1 ∷ 7 ∷ 3 ∷ 7 ∷ 1 ∷ [])
unfolding joined from_rates together table joint_rate rate_in sum count
trap_two = refl

-- what the promise says of the shares of case 2, with exact weights 1 and 3, beside a part of one state, in numbers
pub shares_one_two : SideBySide 1 2 (λ i k. 0) (rate_in two) (joint_rate 2 (λ i k. 0) (rate_in two)) → OnlyClosed 1 (λ i k. 0) (λ i. true)
    → OnlyClosed 2 (rate_in two) (λ i. true) → ◌≡◌ {A = ℕ} (3 * (1 * 4)) (1 * 3 * 4)
unfolding set_weight spread weight over led leads moves alone member size joint_set joint_rate rate_in all put sum prod count
shares_one_two s o p = s.shares (λ i. true) (λ i. true) o p 0 1 (lit< tt) (lit< tt)

-- ---- the verdict

-- accepted with just the needed places, and refused by 5 with one place less in any of the slices
pub room_for_two_ring : (join_verdict two ring 7 12 12 ≡ (of_joint, accepts 12))
    × (join_verdict two ring 6 12 12 ≡ (of_joint, refuses of_chain (numbered 5 0 0)))
    × (join_verdict two ring 7 11 12 ≡ (of_joint, refuses of_chain (numbered 5 0 0)))
    × (join_verdict two ring 7 12 11 ≡ (of_joint, refuses of_chain (numbered 5 0 0)))
unfolding join_verdict joint_tried room_to_read joined from_rates together table joint_rate checked rules_checked zeros_checked starts_sound columns_checked entry_bad rate_in sum count
room_for_two_ring = (refl, refl, refl, refl)

-- 64 joint states are accepted, 65 are not; 15 comes before 5
pub order_64 : (join_verdict (still 8 (replicate 9 0)) (still 8 (replicate 9 0)) 65 0 0 ≡ (of_joint, accepts 0))
    × (join_verdict (still 5 (replicate 6 0)) (still 13 (replicate 14 0)) 66 0 0 ≡ (of_joint, refuses of_chain (numbered 15 0 0)))
    × (join_verdict (still 64 (replicate 65 0)) (still 64 (replicate 65 0)) 0 0 0 ≡ (of_joint, refuses of_chain (numbered 15 0 0)))
unfolding join_verdict joint_tried room_to_read joined from_rates together table joint_rate checked rules_checked zeros_checked starts_sound columns_checked entry_bad rate_in sum count
order_64 = (refl, refl, refl)

-- the first part's refusal comes first, and the second's before 15
pub parts_first : (join_verdict zero_rate (still 65 []) 0 0 0 ≡ (of_first, refuses of_chain (numbered 14 0 1)))
    × (join_verdict (still 64 (replicate 65 0)) zero_rate 0 0 0 ≡ (of_second, refuses of_chain (numbered 14 0 1)))
    × (join_verdict two (still 65 []) 0 0 0 ≡ (of_second, refuses of_chain (numbered 1 0 0)))
unfolding join_verdict checked rules_checked zeros_checked starts_sound columns_checked entry_bad
parts_first = (refl, refl, refl)
