-- What each field of the contract of `join` says of cases 2 and 3 joined, and of parts that are refused; the lent places are in crate `joint`,
-- proofs/Cases. Assumes nothing.
use Rattle.std.specs.Prelude.{Ok, Result}
use mathlib.Core.List.{List, [], ◌∷◌}
use mathlib.Core.Path.{◌≡◌, refl, ap, ◌∙◌}
use Prim.Native.Nat.{ℕ, ◌*◌}
use native.Mathlib.Omega.{arith}
use lib.Dec.{lit<}
use lib.ListN.{get_or, replicate}
use Rattle.basics.specs.Sum.{sum}
use Rattle.basics.specs.Below.{count}
use Rattle.basics.specs.Lists.{table}
use Rattle.refusal.specs.Table.{accepts, refuses, of_chain, numbered}
use Rattle.markov.specs.Chain.{Reaches}
use Rattle.markov.specs.Closed.{OnlyClosed, set_weight}
use Rattle.markov.specs.Product.{joint_rate, joint_set}
use Rattle.chain.specs.Rows.{Rows, rows}
use Rattle.chain.specs.Rules.{starts_sound, entry_bad, columns_checked, rules_checked, zeros_checked, checked}
use Rattle.chain.specs.Meaning.{rate_in}
use Rattle.reach.specs.Answer.{set_of}
use Rattle.layout.specs.Buffers.{Buffers, buffers, chain_in}
use Rattle.joined.specs.Joined.{JointChain}
use Rattle.joined.specs.Verdict.{of_second, of_joint, join_verdict}
use Rattle.joined.proofs.Cases.{two_ring, room_for_two_ring}
use Rattle.joined.proofs.Meaning.{says_join}
use Rattle.joint.specs.declared.JoinRefusal.{JoinRefusal}
use Rattle.joint.specs.Joining.{told_joining, Joins}
use Rattle.worked.specs.Table.{chain1, chain2, chain3, chain6}
use Rattle.worked.proofs.Cases.{cases_hold}
use Rattle.worked.proofs.CasesDemands.{only_2, exact_1, exact_sum_lem}
use Rattle.worked.proofs.CasesGroups as three

-- ---- the answer, computed and as facts

-- seven starts and twelve places for entries are needed
abbrev lent : ℕ → Buffers
lent columns = buffers (replicate 7 7) (replicate columns 8) (replicate 12 9)

module _ {r : Result ℕ JoinRefusal} {new : Buffers} where
  pub answer_23 : Joins chain2 chain3 (lent 12) r new → told_joining r ≡ (of_joint, accepts 12)
  answer_23 j = j.answer ∙ room_for_two_ring.0

  pub answer_short : Joins chain2 chain3 (lent 11) r new → told_joining r ≡ (of_joint, refuses of_chain (numbered 5 0 0))
  answer_short j = j.answer ∙ room_for_two_ring.2

  pub says_23 : Joins chain2 chain3 (lent 12) r new → told_joining r ≡ (of_joint, accepts 12)
  says_23 j = says_join chain2 chain3 7 12 12 j.says ∙ room_for_two_ring.0

  pub says_short : Joins chain2 chain3 (lent 11) r new → told_joining r ≡ (of_joint, refuses of_chain (numbered 5 0 0))
  says_short j = says_join chain2 chain3 7 11 12 j.says ∙ room_for_two_ring.2

  pub says_second : Joins chain2 chain6 (lent 12) r new → told_joining r ≡ (of_second, refuses of_chain (numbered 14 0 1))
  unfolding join_verdict checked rules_checked zeros_checked starts_sound columns_checked entry_bad
  says_second j = says_join chain2 chain6 7 12 12 j.says

-- ---- what stands in the slices is the joint chain: the first part is case 2, "0 to 1 rate 3, 1 to 0 rate 1", the second the ring, "0 to 1 rate 2,
-- 1 to 2 rate 4, 2 to 0 rate 8"

exact_16 : set_weight 3 (rate_in chain3) (set_of chain3) 1 ≡ 16
unfolding table
exact_16 = ap (λ (xs : List ℕ). get_or xs 1 0) cases_hold.case_3.exact_weights_are

module _ {old new : Buffers} (d : Joins chain2 chain3 old (Ok 12) new) where
  abbrev now : Rows
  now = chain_in new 6 12

  beside : JointChain chain2 chain3 now
  beside = d.joint 12 refl

  pub chain_23 : now ≡ rows 6 (0 ∷ 2 ∷ 4 ∷ 6 ∷ 8 ∷ 10 ∷ 12 ∷ []) (1 ∷ 3 ∷ 2 ∷ 4 ∷ 0 ∷ 5 ∷ 0 ∷ 4 ∷ 1 ∷ 5 ∷ 2 ∷ 3 ∷ []) (2 ∷ 3 ∷ 4 ∷ 3 ∷ 8 ∷ 3 ∷ 1 ∷ 2 ∷ 1 ∷ 4 ∷ 1 ∷ 8 ∷ [])
  chain_23 = beside.chain_is ∙ two_ring

  pub passes_23 : checked now ≡ accepts 12
  passes_23 = beside.passes

  -- from 0 × 3 + 1 to 1 × 3 + 1 the first part moves
  pub rate_1_4 : rate_in now 1 4 ≡ 3
  unfolding joint_rate rate_in sum count
  rate_1_4 = beside.side_by_side.rates 1 4 (lit< tt) (lit< tt)

  pub first_back : rate_in now 5 2 ≡ 1
  unfolding rate_in sum
  first_back = beside.side_by_side.first_moves 1 0 2 (lit< tt) (lit< tt) (lit< tt) (omega arith)

  pub second_on : rate_in now 4 5 ≡ 4
  unfolding rate_in sum
  second_on = beside.side_by_side.second_moves 1 1 2 (lit< tt) (lit< tt) (lit< tt) (omega arith)

  pub not_both : rate_in now 0 4 ≡ 0
  not_both = beside.side_by_side.never_both 0 0 1 1 (lit< tt) (lit< tt) (lit< tt) (lit< tt) (omega arith) (omega arith)

  pub reaches_5 : Reaches 2 (rate_in chain2) 0 1 → Reaches 3 (rate_in chain3) 0 2 → Reaches 6 (rate_in now) 0 5
  reaches_5 p q = (beside.side_by_side.reaching 0 0 1 2 (lit< tt) (lit< tt) (lit< tt) (lit< tt)).1 (p, q)

  pub reached_by_parts : Reaches 6 (rate_in now) 0 5 → Reaches 2 (rate_in chain2) 0 1 × Reaches 3 (rate_in chain3) 0 2
  reached_by_parts p = (beside.side_by_side.reaching 0 0 1 2 (lit< tt) (lit< tt) (lit< tt) (lit< tt)).0 p

  pub only_23 : OnlyClosed 6 (rate_in now) (joint_set 3 (set_of chain2) (set_of chain3))
  only_23 = beside.side_by_side.answer (set_of chain2) (set_of chain3) only_2 three.only_3

  -- the share of 1 × 3 + 1 is the product of 3 / 4 and 16 / 56
  abbrev weight : ℕ → ℕ
  weight = set_weight 6 (rate_in now) (joint_set 3 (set_of chain2) (set_of chain3))

  pub share_4 : weight 4 * (4 * 56) ≡ 3 * 16 * sum 6 weight
  share_4 =
      rw (exact_sum_lem, three.exact_sum_lem, exact_1, exact_16) at
      (beside.side_by_side.shares (set_of chain2) (set_of chain3) only_2 three.only_3 1 1 (lit< tt) (lit< tt))

-- ---- a part of one state: case 1 on either side gives case 2 back

module _ {old new : Buffers} where
  pub second_of_one : Joins chain2 chain1 old (Ok 2) new → chain_in new 2 2 ≡ chain2
  second_of_one d = (d.joint 2 refl).first_alone refl

  pub first_of_one : Joins chain1 chain2 old (Ok 2) new → chain_in new 2 2 ≡ chain2
  first_of_one d = (d.joint 2 refl).second_alone refl
