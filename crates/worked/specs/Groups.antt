-- Document 02, R-1, on case 3: its states 0 and 1 in group 3, its state 2 in group 15; and on case 7: its states 0 and 1 in group 9, its
-- state 2, which is outside the closed set, in group 4; with the places that the groups need, and the order of the refusals.
-- `group_cases_hold` in proofs/CasesGroups.antt proves it.
use Rattle.std.specs.Prelude.{true, false, List, [], ◌∷◌, ◌≡◌, ℕ, pos, replicate}
use Rattle.refusal.specs.Table.{accepts, refuses, of_chain, numbered}
use Rattle.kernel.specs.Slices.{Slices, pair}
use Rattle.scaled.specs.declared.Scaled.{Scaled}
use Rattle.scaled.specs.Scaled.{zero_number}
use Rattle.basics.specs.Lists.{table}
use Rattle.group_table.specs.Sums.{group_places}
use Rattle.group_shares.specs.GroupShares.{GroupLent, enough_for, groups_solved, group_shares_of, group_weight}
use Rattle.chain.specs.Meaning.{rate_in}
use Rattle.reach.specs.Answer.{set_of}
use Rattle.worked.specs.Table.{chain3, chain6, chain7, scaled, minus}

abbrev pub table3 : List ℕ
table3 = 0 ∷ 1 ∷ 3 ∷ 2 ∷ 2 ∷ 15 ∷ []

abbrev pub table7 : List ℕ
table7 = 2 ∷ 2 ∷ 4 ∷ 0 ∷ 1 ∷ 9 ∷ []

abbrev z : Scaled
z = zero_number

-- k places in each of two slices
abbrev both : ℕ → Slices
both k = pair (replicate k 7) (replicate k (pos 7))

-- just the needed places for three states, and so many for the groups' m and e
abbrev pub places_for : ℕ → ℕ → GroupLent
places_for m e = record { solving = record { work = both 9; weights = both 3; shares = both 3 }; groups = pair (replicate m 7) (replicate e (pos 7)) }

pub record GroupCases : Type 0 where
  -- "Sixteen m and sixteen e places are lent, under 5": fifteen of either are too few
  pub sixteen : groups_solved chain3 table3 (enough_for 3 (places_for 16 16)) ≡ accepts 28
  pub fifteen_m : groups_solved chain3 table3 (enough_for 3 (places_for 15 16)) ≡ refuses of_chain (numbered 5 0 0)
  pub fifteen_e : groups_solved chain3 table3 (enough_for 3 (places_for 16 15)) ≡ refuses of_chain (numbered 5 0 0)
  -- the table is tried before 5, and 14 before the table: group 16 in row 1
  pub order_13_5 : groups_solved chain3 (0 ∷ 1 ∷ 3 ∷ 2 ∷ 2 ∷ 16 ∷ []) false ≡ refuses of_chain (numbered 13 1 0)
  pub order_14_13 : groups_solved chain6 (0 ∷ 1 ∷ 16 ∷ []) false ≡ refuses of_chain (numbered 14 0 1)
  -- accepted where the lent slices suffice, with K(3)
  pub accepted : groups_solved chain3 table3 true ≡ accepts 28
  -- the shares of the sixteen groups
  pub groups_are : table group_places (group_shares_of chain3 table3)
      ≡ z ∷ z ∷ z ∷ scaled 3681400539 (minus 32) ∷ z ∷ z ∷ z ∷ z ∷ z ∷ z ∷ z ∷ z ∷ z ∷ z ∷ z ∷ scaled 2454267026 (minus 34) ∷ []
  -- the exact weights of the groups, 32 + 16 and 8 of 56, and of an empty one
  pub exact_3 : group_weight 3 (rate_in chain3) (set_of chain3) table3 3 ≡ 48
  pub exact_15 : group_weight 3 (rate_in chain3) (set_of chain3) table3 15 ≡ 8
  pub exact_0 : group_weight 3 (rate_in chain3) (set_of chain3) table3 0 ≡ 0
  -- case 7: the set's states hold all the time, and the group outside it holds none
  pub accepted_7 : groups_solved chain7 table7 true ≡ accepts 8
  pub groups_are_7 : table group_places (group_shares_of chain7 table7)
      ≡ z ∷ z ∷ z ∷ z ∷ z ∷ z ∷ z ∷ z ∷ z ∷ scaled 2147483648 (minus 31) ∷ z ∷ z ∷ z ∷ z ∷ z ∷ z ∷ []
  pub exact_9 : group_weight 3 (rate_in chain7) (set_of chain7) table7 9 ≡ 2
  pub exact_4 : group_weight 3 (rate_in chain7) (set_of chain7) table7 4 ≡ 0
