-- Worked verdicts of 1 to 4, 14 and 6, and a state reached by way of another, by evaluation. Assumes nothing.
use mathlib.Core.Bool.{true, false}
use mathlib.Core.List.{[], ◌∷◌}
use mathlib.Core.Path.{◌≡◌, refl}
use Rattle.basics.specs.Sum.{sum}
use Rattle.basics.specs.Below.{all}
use Rattle.refusal.specs.Table.{refuses, of_chain, numbered}
use Rattle.chain.specs.Rows.{rows}
use Rattle.chain.specs.Rules.{starts_sound, entry_bad, columns_checked, rules_checked, zeros_checked, checked}
use Rattle.chain.specs.Meaning.{rate_in}
use Rattle.reach.specs.Reach.{via, reaches}
use Rattle.reach.specs.ClosedSets.{settles, is_lowest, first_lowest, second_lowest}
use Rattle.reach.specs.Answer.{one_closed, answered}

-- "n = 2 without entries, (0, 1)"
pub no_entries : answered (rows 2 (0 ∷ 0 ∷ 0 ∷ []) [] []) ≡ refuses of_chain (numbered 6 0 1)
unfolding answered one_closed first_lowest second_lowest is_lowest settles all checked rules_checked starts_sound columns_checked entry_bad zeros_checked via rate_in sum
no_entries = refl

-- in case 7 state 2 reaches state 1, by way of state 0
pub by_way_of_0 : reaches (rows 3 (0 ∷ 1 ∷ 2 ∷ 3 ∷ []) (1 ∷ 0 ∷ 0 ∷ []) (1 ∷ 1 ∷ 1 ∷ [])) 2 1 ≡ true
unfolding reaches checked rules_checked starts_sound columns_checked entry_bad zeros_checked via rate_in sum
by_way_of_0 = refl

-- 1 to 4 come first, unchanged
pub rule_first : answered (rows 2 (0 ∷ 1 ∷ 1 ∷ []) (0 ∷ []) (3 ∷ [])) ≡ refuses of_chain (numbered 4 0 0)
unfolding answered checked rules_checked starts_sound columns_checked entry_bad
rule_first = refl

-- 14 comes before 6: three states without a positive rate between them
pub zero_first : answered (rows 3 (0 ∷ 0 ∷ 0 ∷ 1 ∷ []) (1 ∷ []) (0 ∷ [])) ≡ refuses of_chain (numbered 14 2 1)
unfolding answered checked rules_checked starts_sound columns_checked entry_bad zeros_checked
zero_first = refl

-- and no bit stands for such a chain, not even of the state itself
pub no_bits_of_zeros : reaches (rows 2 (0 ∷ 1 ∷ 2 ∷ []) (1 ∷ 0 ∷ []) (0 ∷ 5 ∷ [])) 1 1 ≡ false
unfolding reaches checked rules_checked starts_sound columns_checked entry_bad zeros_checked
no_bits_of_zeros = refl
