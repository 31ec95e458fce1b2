-- What each field of the contracts of `check`, `row_rates`, `reach_masks` and `check_answer` says of cases, as CasesSolved for `solve`. Assumes nothing.
use mathlib.Core.Bool.{true, false}
use mathlib.Core.List.{List}
use mathlib.Core.Path.{◌≡◌, refl}
use Prim.Native.Nat.{ℕ, ◌+◌}
use native.Mathlib.Omega.{arith}
use denote.Ref.{Bor}
use lib.Dec.{lit<, lit≤}
use lib.ListN.{get_or}
use Rattle.basics.specs.Sum.{sum}
use Rattle.basics.specs.Below.{all}
use Rattle.refusal.specs.Table.{Verdict, accepts, refuses, of_chain, numbered}
use Rattle.markov.specs.Chain.{Reaches}
use Rattle.chain.specs.Rules.{starts_sound, entry_bad, columns_checked, rules_checked, zeros_checked, checked}
use Rattle.chain.specs.Row.{row_part, stands_at}
use Rattle.chain.specs.Sound.{Says}
use Rattle.chain.specs.Meaning.{rate_in}
use Rattle.chain.proofs.Reading.{says_checked}
use Rattle.reach.specs.Reach.{via, bits, reaches, Hold, ReachMasks}
use Rattle.reach.specs.ClosedSets.{settles, is_lowest, first_lowest, second_lowest}
use Rattle.reach.specs.Answer.{one_closed, answered, AnswerSays}
use Rattle.reach.proofs.AnswerLaws.{says_answered}
use Rattle.worked.specs.Table.{chain0, chain3, chain6, chain7}
use Rattle.worked.proofs.CasesClosed.{has_answer_7}

-- ---- the facts of a verdict leave no other: case 6 is 14, and n = 2 without entries is 6

pub check_says_6 : {v : Verdict ℕ} → Says chain6 v → v ≡ refuses of_chain (numbered 14 0 1)
unfolding checked rules_checked starts_sound columns_checked entry_bad zeros_checked
check_says_6 s = says_checked chain6 s

pub check_says_7 : {v : Verdict ℕ} → Says chain7 v → v ≡ accepts 3
unfolding checked rules_checked starts_sound columns_checked entry_bad zeros_checked
check_says_7 s = says_checked chain7 s

pub answer_says_0 : {v : Verdict ℕ} → AnswerSays chain0 v → v ≡ refuses of_chain (numbered 6 0 1)
unfolding answered one_closed first_lowest second_lowest is_lowest settles all checked rules_checked starts_sound columns_checked entry_bad zeros_checked via rate_in sum
answer_says_0 s = says_answered chain0 s

pub answer_says_7 : {v : Verdict ℕ} → AnswerSays chain7 v → v ≡ accepts 3
unfolding answered one_closed first_lowest second_lowest is_lowest settles all checked rules_checked starts_sound columns_checked entry_bad zeros_checked via rate_in sum
answer_says_7 s = says_answered chain7 s

-- ---- "the caller's own rates": row 2 of case 3 begins eight bytes after the rates

pub row_2_stands : (rates : Bor (List ℕ)) → stands_at rates (row_part chain3 2).0 ≡ (rates.ref_ptr.0, 8 + rates.ref_ptr.1)
unfolding row_part checked rules_checked starts_sound columns_checked entry_bad zeros_checked
row_2_stands rates = refl

-- ---- the masks: in case 7 state 2 reaches state 1, by way of state 0, and nothing reaches it

module _ {masks : List ℕ} where
  pub bit_2_1 : Hold masks (reaches chain7) → bits masks 2 1 ≡ true
  unfolding reaches checked rules_checked starts_sound columns_checked entry_bad zeros_checked via rate_in sum
  bit_2_1 h = h.bit 2 1

  pub bit_0_2 : Hold masks (reaches chain7) → bits masks 0 2 ≡ false
  unfolding reaches checked rules_checked starts_sound columns_checked entry_bad zeros_checked via rate_in sum
  bit_0_2 h = h.bit 0 2

  pub reached_stands : ReachMasks chain7 masks → Reaches 3 (rate_in chain7) 2 1 → bits masks 2 1 ≡ true
  reached_stands m p = (m.reached has_answer_7.0 2 1 (lit< tt) (lit< tt)).1 p

  pub stands_reached : ReachMasks chain7 masks → bits masks 0 1 ≡ true → Reaches 3 (rate_in chain7) 0 1
  stands_reached m q = (m.reached has_answer_7.0 0 1 (lit< tt) (lit< tt)).0 q

  pub none_at_3 : ReachMasks chain7 masks → get_or masks 3 0 ≡ 0
  none_at_3 m = m.none_beyond 3 (lit≤ tt)

  -- a refused chain has no bit
  pub none_of_6 : ReachMasks chain6 masks → get_or masks 1 0 ≡ 0
  none_of_6 m = m.none_refused (λ a. omega (arith, a.positive 0 (lit< tt))) 1
