-- What each field of the contract of `solve_groups` says of case 7 with its table, with lent slices of unequal lengths, and of inputs that are
-- refused, as CasesSolved for `solve`. Assumes nothing.
use Rattle.std.specs.Prelude.{Err, Ok, Result}
use mathlib.Core.Bool.{Bool, true, false, false≢true}
use mathlib.Core.List.{[], ◌∷◌}
use mathlib.Core.Path.{◌≡◌, refl, sym, ap, ◌∙◌}
use Prim.Native.Nat.{ℕ, zero, suc, ◌*◌, ◌≤◌, ◌<◌}
use native.Mathlib.Omega.{arith}
use lib.Dec.{lit<, lit≤}
use lib.IntN.{pos}
use lib.ListN.{length, replicate}
use Rattle.basics.specs.Sum.{sum}
use Rattle.basics.specs.Below.{count, all}
use Rattle.basics.specs.Near.{Near}
use Rattle.basics.specs.Lists.{table}
use Rattle.refusal.specs.Table.{accepts, refuses, of_chain, numbered, verdict}
use Rattle.refusal.specs.declared.Refusal.{Refusal}
use Rattle.refusal.specs.declared.Refusal.TheVariants.{Chain}
use Rattle.refusal.specs.declared.ChainReason.TheVariants as chain
use Rattle.scaled.specs.Scaled.{zero_number, bit_length_up_to, bit_length, is_scaled_at, upward, carried, nearest, rounded_sum, rounded_product, rounded_quotient}
use Rattle.scaled.specs.Scaled.{converted, is_scaled, sum_of, product_of, quotient_of, rate_of}
use Rattle.scaled.specs.Units.{one_number, val, one, factor}
use Rattle.markov.specs.Chain.{Balances}
use Rattle.markov.specs.Closed.{Closed, HasAnswer, size, member, alone, spread, set_weights, set_shares}
use Rattle.markov.specs.Elimination as elimination
use Rattle.markov.specs.Count.{bound_count}
use Rattle.range.specs.Range.{picked}
use Rattle.chain.specs.Rules.{starts_sound, entry_bad, columns_checked, rules_checked, zeros_checked, checked}
use Rattle.chain.specs.Sound.{Accepted}
use Rattle.chain.specs.Meaning.{rate_in}
use Rattle.reach.specs.Reach.{via}
use Rattle.reach.specs.ClosedSets.{settles, is_lowest, first_lowest, second_lowest, lowest_set}
use Rattle.reach.specs.Answer.{one_closed, answered, set_of}
use Rattle.kernel.specs.Numbers.{ops, plus, times, divided_by}
use Rattle.kernel.specs.Slices.{pair, number_at}
use Rattle.solver.specs.Lent.{enough}
use Rattle.solver.specs.Solve.{entries, set_size, weights_of, shares_of, count_of, solved, WellInside}
use Rattle.group_table.specs.Rules.{row_bad, holders, table_checked, group_of}
use Rattle.group_table.specs.Sound.{SoundTable}
use Rattle.group_table.specs.Sums.{in_group}
use Rattle.group_shares.specs.GroupShares.{GroupLent, groups_solved, group_shares_of, GroupsSolvable, GroupsSolved}
use Rattle.group_shares.proofs.Acceptance.{says_solved}
use Rattle.worked.specs.Table.{chain7, minus}
use Rattle.worked.specs.Groups.{table7}
use Rattle.worked.proofs.CasesClosed.{only_7, outside_7, count_7, last_7, exact_sum_lem}
use Rattle.worked.proofs.CasesGroups.{group_cases_hold}
use Rattle.worked.proofs.CasesSolved.{lent7}

-- sixteen places for the groups are needed: just these for m, one more for e; and one less for e
abbrev lent7g : GroupLent
lent7g = record { solving = lent7; groups = pair (replicate 16 7) (replicate 17 (pos 7)) }

abbrev short7g : GroupLent
short7g = record { solving = lent7; groups = pair (replicate 16 7) (replicate 15 (pos 7)) }

-- ---- the answer, computed and as facts

pub answer_7 : {r : Result ℕ Refusal} {new : GroupLent} → GroupsSolved chain7 table7 lent7g r new → verdict r ≡ accepts 8
unfolding groups_solved table_checked row_bad holders solved enough count_of set_size size count bound_count
    checked rules_checked starts_sound columns_checked entry_bad zeros_checked rate_in answered one_closed set_of lowest_set first_lowest second_lowest is_lowest settles all via sum
answer_7 s = s.answer

pub says_7 : {r : Result ℕ Refusal} {new : GroupLent} → GroupsSolved chain7 table7 lent7g r new → verdict r ≡ accepts 8
unfolding groups_solved table_checked row_bad holders solved enough count_of set_size size count bound_count
    checked rules_checked starts_sound columns_checked entry_bad zeros_checked rate_in answered one_closed set_of lowest_set first_lowest second_lowest is_lowest settles all via sum
says_7 s = says_solved chain7 table7 lent7g s.says

-- fifteen places for e are 5
pub answer_short : {r : Result ℕ Refusal} {new : GroupLent} → GroupsSolved chain7 table7 short7g r new → verdict r ≡ refuses of_chain (numbered 5 0 0)
unfolding groups_solved table_checked row_bad holders solved enough checked rules_checked starts_sound columns_checked entry_bad zeros_checked sum count
answer_short s = s.answer

pub says_short : {r : Result ℕ Refusal} {new : GroupLent} → GroupsSolved chain7 table7 short7g r new → verdict r ≡ refuses of_chain (numbered 5 0 0)
unfolding groups_solved table_checked row_bad holders solved enough checked rules_checked starts_sound columns_checked entry_bad zeros_checked sum count
says_short s = says_solved chain7 table7 short7g s.says

-- ---- acceptance, both ways, for any lent slices

module _ {l new : GroupLent} where
  pub accepted_7 : {r : Result ℕ Refusal} → GroupsSolved chain7 table7 l r new → GroupsSolvable chain7 table7 l → verdict r ≡ accepts 8
  accepted_7 s h = s.acceptance.0 h ∙ ap accepts count_7

  solvable_7 : GroupsSolved chain7 table7 l (Ok 8) new → GroupsSolvable chain7 table7 l
  solvable_7 s = s.acceptance.1 (ap accepts (sym count_7))

  pub rules_hold_7 : GroupsSolved chain7 table7 l (Ok 8) new → Accepted chain7
  rules_hold_7 s = (solvable_7 s).accepted

  pub table_sound_7 : GroupsSolved chain7 table7 l (Ok 8) new → SoundTable 3 table7
  table_sound_7 s = (solvable_7 s).table_sound

  pub has_answer_7 : GroupsSolved chain7 table7 l (Ok 8) new → HasAnswer 3 (rate_in chain7)
  has_answer_7 s = (solvable_7 s).answer

  pub group_places_7 : GroupsSolved chain7 table7 l (Ok 8) new → (16 ≤ length l.groups.m) × (16 ≤ length l.groups.e)
  group_places_7 s = let room = (solvable_7 s).room in (room.for_groups.for_m, room.for_groups.for_e)

  pub share_places_7 : GroupsSolved chain7 table7 l (Ok 8) new → 3 ≤ length l.solving.shares.e
  share_places_7 s = (solvable_7 s).room.for_solving.for_shares.for_e

-- ---- every lent place

module _ {new : GroupLent} (s : GroupsSolved chain7 table7 lent7g (Ok 8) new) where
  pub work_7 : new.solving.work ≡ pair (0 ∷ 0 ∷ 0 ∷ 0 ∷ 0 ∷ 0 ∷ 0 ∷ 0 ∷ 0 ∷ 7 ∷ 7 ∷ []) (replicate 9 (pos 0))
  work_7 = s.work

  pub weights_7 : new.solving.weights ≡ pair (2147483648 ∷ 2147483648 ∷ 0 ∷ []) (minus 31 ∷ minus 31 ∷ pos 0 ∷ pos 7 ∷ [])
  unfolding table weights_of entries set_size plus times divided_by one_number
      elimination.weights elimination.total elimination.pivot_of elimination.quotient_at elimination.next
      bit_length_up_to bit_length is_scaled_at upward carried nearest rounded_sum rounded_product rounded_quotient converted is_scaled sum_of product_of quotient_of rate_of
      size member alone spread set_weights count rate_in set_of lowest_set first_lowest is_lowest settles all via sum
  weights_7 = s.weights

  pub shares_7 : new.solving.shares ≡ pair (2147483648 ∷ 2147483648 ∷ 0 ∷ 7 ∷ 7 ∷ []) (minus 32 ∷ minus 32 ∷ pos 0 ∷ [])
  unfolding table shares_of entries set_size plus times divided_by one_number
      elimination.weights elimination.shares elimination.total elimination.pivot_of elimination.quotient_at elimination.next
      bit_length_up_to bit_length is_scaled_at upward carried nearest rounded_sum rounded_product rounded_quotient converted is_scaled sum_of product_of quotient_of rate_of
      size member alone spread set_shares count rate_in set_of lowest_set first_lowest is_lowest settles all via sum
  shares_7 = s.shares

  -- group 9 has the states 0 and 1, and all others Zero; the seventeenth place is kept
  pub groups_7 : new.groups
      ≡ pair (0 ∷ 0 ∷ 0 ∷ 0 ∷ 0 ∷ 0 ∷ 0 ∷ 0 ∷ 0 ∷ 2147483648 ∷ 0 ∷ 0 ∷ 0 ∷ 0 ∷ 0 ∷ 0 ∷ [])
      (pos 0 ∷ pos 0 ∷ pos 0 ∷ pos 0 ∷ pos 0 ∷ pos 0 ∷ pos 0 ∷ pos 0 ∷ pos 0 ∷ minus 31 ∷ pos 0 ∷ pos 0 ∷ pos 0 ∷ pos 0 ∷ pos 0 ∷ pos 0 ∷ pos 7 ∷ [])
  unfolding group_shares_of group_of picked table shares_of entries set_size plus times divided_by one_number
      elimination.weights elimination.shares elimination.total elimination.pivot_of elimination.quotient_at elimination.next
      bit_length_up_to bit_length is_scaled_at upward carried nearest rounded_sum rounded_product rounded_quotient converted is_scaled sum_of product_of quotient_of rate_of
      size member alone spread set_shares count rate_in set_of lowest_set first_lowest is_lowest settles all via sum
  groups_7 = s.groups

-- refused: all is as it was
pub refused_keeps : {new : GroupLent} → GroupsSolved chain7 table7 short7g (Err (Chain chain.Room)) new
    → (new.solving.work ≡ lent7.work) × (new.solving.weights ≡ lent7.weights) × (new.solving.shares ≡ lent7.shares) × (new.groups ≡ short7g.groups)
refused_keeps s = (s.work, s.weights, s.shares, s.groups)

-- ---- the demands and the range, for any lent slices

module _ {l new : GroupLent} (s : GroupsSolved chain7 table7 l (Ok 8) new) where
  pub set_7 : (other : ℕ → Bool) → Closed 3 (rate_in chain7) other → other 2 ≡ false
  set_7 other c = (s.the_set 8 refl).only other c 2 (lit< tt) ∙ outside_7

  pub group_sum_7 : WellInside (picked ops (in_group table7 9) (shares_of chain7) 3)
  group_sum_7 = (s.in_range 8 refl).groups (in_group table7 9) 3 (lit≤ tt)

  pub nothing_outside_7 : (w : ℕ → ℕ) → Balances 3 (rate_in chain7) w → w 2 ≡ 0
  nothing_outside_7 w b = (s.balancing (set_of chain7) only_7).outside w b 2 (lit< tt) outside_7

  pub last_weight_7 : number_at new.solving.weights 1 ≡ one_number
  last_weight_7 = rw last_7 at (s.accurate 8 refl).last_weight

  pub share_2_zero : number_at new.solving.shares 2 ≡ zero_number
  share_2_zero = (s.accurate 8 refl).shares_outside 2 (lit< tt) outside_7

  pub group_9_scaled : is_scaled (number_at new.groups 9) ≡ true
  group_9_scaled = (s.groups_accurate 8 refl).scaled 9 (lit< tt)

  -- the group of state 2, which is outside the set, and an empty one
  pub group_4_zero : number_at new.groups 4 ≡ zero_number
  unfolding group_of set_of lowest_set first_lowest is_lowest settles all via rate_in sum
  group_4_zero = (s.groups_accurate 8 refl).outside 4 (lit< tt) outside
    where
      outside : (i : ℕ) → i < 3 → in_group table7 4 i ≡ true → set_of chain7 i ≡ false
      outside = elim [ zero ↦ λ l q. absurd (false≢true q) | suc zero ↦ λ l q. absurd (false≢true q) | suc (suc zero) ↦ λ l q. refl | suc (suc (suc i)) ↦ λ l q. absurd (omega arith) ]

  -- group 9 lies within 2 × 8 + 2 × 3 factors of 2 / 2
  pub group_9_near : Near factor 22 (val (number_at new.groups 9) * 2) (one * 2)
  group_9_near = rw (exact_sum_lem, group_cases_hold.exact_9) at ((s.groups_accurate 8 refl).near 9 (lit< tt))
