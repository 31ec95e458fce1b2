-- What each field of the contract of `solve` says of case 7, whose state 2 is outside the closed set, with lent slices of unequal lengths, and of
-- inputs that are refused. Each line rests on the one field that it names, so that a field that says less is refused here. Assumes nothing.
use Rattle.std.specs.Prelude.{Err, Ok, Result}
use mathlib.Core.Bool.{Bool, true, false, false≢true}
use mathlib.Core.List.{[], ◌∷◌}
use mathlib.Core.Logic.{◌≢◌}
use mathlib.Core.Path.{◌≡◌, refl, sym, ap, ◌∙◌}
use Prim.Native.Nat.{ℕ, ◌*◌, ◌≤◌}
use native.Mathlib.Omega.{arith}
use lib.Dec.{lit<}
use lib.IntN.{pos}
use lib.ListN.{length, get_or, replicate}
use Rattle.basics.specs.Sum.{sum}
use Rattle.basics.specs.Below.{count, all}
use Rattle.basics.specs.Near.{Near}
use Rattle.basics.specs.Lists.{table}
use Rattle.refusal.specs.Table.{accepts, refuses, of_chain, numbered, verdict}
use Rattle.refusal.specs.declared.Refusal.{Refusal}
use Rattle.refusal.specs.declared.Refusal.TheVariants.{Chain}
use Rattle.refusal.specs.declared.ChainReason.TheVariants as chain
use Rattle.scaled.specs.declared.Scaled.{Scaled}
use Rattle.scaled.specs.Scaled.{zero_number, bit_length_up_to, bit_length, is_scaled_at, upward, carried, nearest, rounded_sum, rounded_product, rounded_quotient}
use Rattle.scaled.specs.Scaled.{converted, is_scaled, sum_of, product_of, quotient_of, rate_of}
use Rattle.scaled.specs.Units.{one_number, val, one, factor}
use Rattle.markov.specs.Chain.{Balances}
use Rattle.markov.specs.Closed.{Closed, HasAnswer, size, member, alone, spread, set_weight, set_weights, set_shares}
use Rattle.markov.specs.Elimination as elimination
use Rattle.markov.specs.Count.{bound_count}
use Rattle.chain.specs.Rules.{starts_sound, entry_bad, columns_checked, rules_checked, zeros_checked, checked}
use Rattle.chain.specs.Sound.{Accepted}
use Rattle.chain.specs.Meaning.{rate_in}
use Rattle.reach.specs.Reach.{via}
use Rattle.reach.specs.ClosedSets.{settles, is_lowest, first_lowest, second_lowest, lowest_set}
use Rattle.reach.specs.Answer.{one_closed, answered, set_of}
use Rattle.kernel.specs.Numbers.{plus, times, divided_by}
use Rattle.kernel.specs.Slices.{Slices, pair, number_at}
use Rattle.solver.specs.Lent.{Lent, enough}
use Rattle.solver.specs.Solve.{entries, set_size, weights_of, shares_of, count_of, solved, Solvable, Accurate, Solved}
use Rattle.solver.proofs.Acceptance.{says_solved}
use Rattle.worked.specs.Table.{chain0, chain2, chain6, chain7, minus}
use Rattle.worked.proofs.CasesClosed.{only_7, inside_7, outside_7, count_7, last_7, size_7, exact_0, exact_1, exact_sum_lem}

-- ---- the lent slices of case 7: nine work places, three for the weights and three for the shares are needed, and up to two more are there

abbrev pub lent7 : Lent
lent7 = record {
  work = pair (replicate 11 7) (replicate 9 (pos 7));
  weights = pair (replicate 3 7) (replicate 4 (pos 7));
  shares = pair (replicate 5 7) (replicate 3 (pos 7));
}

-- "n = 2, one place for weights"
abbrev lent2 : Lent
lent2 = record {
  work = pair (replicate 4 7) (replicate 4 (pos 7));
  weights = pair (replicate 1 7) (replicate 2 (pos 7));
  shares = pair (replicate 2 7) (replicate 2 (pos 7));
}

-- ---- the answer

pub answer_7 : {r : Result ℕ Refusal} {new : Lent} → Solved chain7 lent7 r new → verdict r ≡ accepts 8
unfolding solved enough count_of set_size size count bound_count
    checked rules_checked starts_sound columns_checked entry_bad zeros_checked rate_in answered one_closed set_of lowest_set first_lowest second_lowest is_lowest settles all via sum
answer_7 s = s.answer

pub answer_short : {r : Result ℕ Refusal} {new : Lent} → Solved chain2 lent2 r new → verdict r ≡ refuses of_chain (numbered 5 0 0)
unfolding solved enough checked rules_checked starts_sound columns_checked entry_bad zeros_checked
answer_short s = s.answer

-- ---- the same by the facts alone

pub says_7 : {r : Result ℕ Refusal} {new : Lent} → Solved chain7 lent7 r new → verdict r ≡ accepts 8
unfolding solved enough count_of set_size size count bound_count
    checked rules_checked starts_sound columns_checked entry_bad zeros_checked rate_in answered one_closed set_of lowest_set first_lowest second_lowest is_lowest settles all via sum
says_7 s = says_solved chain7 lent7 s.says

pub says_short : {r : Result ℕ Refusal} {new : Lent} → Solved chain2 lent2 r new → verdict r ≡ refuses of_chain (numbered 5 0 0)
unfolding solved enough checked rules_checked starts_sound columns_checked entry_bad zeros_checked
says_short s = says_solved chain2 lent2 s.says

pub says_0 : {r : Result ℕ Refusal} {new : Lent} → Solved chain0 lent7 r new → verdict r ≡ refuses of_chain (numbered 6 0 1)
unfolding solved enough checked rules_checked starts_sound columns_checked entry_bad zeros_checked rate_in
    answered one_closed set_of lowest_set first_lowest second_lowest is_lowest settles all via sum
says_0 s = says_solved chain0 lent7 s.says

pub says_6 : {r : Result ℕ Refusal} {new : Lent} → Solved chain6 lent2 r new → verdict r ≡ refuses of_chain (numbered 14 0 1)
unfolding solved checked rules_checked starts_sound columns_checked entry_bad zeros_checked
says_6 s = says_solved chain6 lent2 s.says

-- ---- acceptance, both ways, for any lent slices

module _ {l new : Lent} where
  pub accepted_7 : {r : Result ℕ Refusal} → Solved chain7 l r new → Solvable chain7 l → verdict r ≡ accepts 8
  accepted_7 s h = s.acceptance.0 h ∙ ap accepts count_7

  solvable_7 : Solved chain7 l (Ok 8) new → Solvable chain7 l
  solvable_7 s = s.acceptance.1 (ap accepts (sym count_7))

  pub rules_hold_7 : Solved chain7 l (Ok 8) new → Accepted chain7
  rules_hold_7 s = (solvable_7 s).accepted

  pub has_answer_7 : Solved chain7 l (Ok 8) new → HasAnswer 3 (rate_in chain7)
  has_answer_7 s = (solvable_7 s).answer

  pub work_places_7 : Solved chain7 l (Ok 8) new → (9 ≤ length l.work.m) × (9 ≤ length l.work.e)
  work_places_7 s = let room = (solvable_7 s).room in (room.for_work.for_m, room.for_work.for_e)

  pub weight_places_7 : Solved chain7 l (Ok 8) new → (3 ≤ length l.weights.m) × (3 ≤ length l.weights.e)
  weight_places_7 s = let room = (solvable_7 s).room in (room.for_weights.for_m, room.for_weights.for_e)

  pub share_places_7 : Solved chain7 l (Ok 8) new → (3 ≤ length l.shares.m) × (3 ≤ length l.shares.e)
  share_places_7 s = let room = (solvable_7 s).room in (room.for_shares.for_m, room.for_shares.for_e)

-- ---- every lent place

-- accepted: nine work places are 0, the results stand in front, and the places beyond are kept
module _ {new : Lent} (s : Solved chain7 lent7 (Ok 8) new) where
  pub work_7 : new.work ≡ pair (0 ∷ 0 ∷ 0 ∷ 0 ∷ 0 ∷ 0 ∷ 0 ∷ 0 ∷ 0 ∷ 7 ∷ 7 ∷ []) (replicate 9 (pos 0))
  work_7 = s.work

  pub weights_7 : new.weights ≡ pair (2147483648 ∷ 2147483648 ∷ 0 ∷ []) (minus 31 ∷ minus 31 ∷ pos 0 ∷ pos 7 ∷ [])
  unfolding table weights_of entries set_size plus times divided_by one_number
      elimination.weights elimination.total elimination.pivot_of elimination.quotient_at elimination.next
      bit_length_up_to bit_length is_scaled_at upward carried nearest rounded_sum rounded_product rounded_quotient converted is_scaled sum_of product_of quotient_of rate_of
      size member alone spread set_weights count rate_in set_of lowest_set first_lowest is_lowest settles all via sum
  weights_7 = s.weights

  pub shares_7 : new.shares ≡ pair (2147483648 ∷ 2147483648 ∷ 0 ∷ 7 ∷ 7 ∷ []) (minus 32 ∷ minus 32 ∷ pos 0 ∷ [])
  unfolding table shares_of entries set_size plus times divided_by one_number
      elimination.weights elimination.shares elimination.total elimination.pivot_of elimination.quotient_at elimination.next
      bit_length_up_to bit_length is_scaled_at upward carried nearest rounded_sum rounded_product rounded_quotient converted is_scaled sum_of product_of quotient_of rate_of
      size member alone spread set_shares count rate_in set_of lowest_set first_lowest is_lowest settles all via sum
  shares_7 = s.shares

-- refused: all is as it was
pub refused_keeps : {new : Lent} → Solved chain2 lent2 (Err (Chain chain.Room)) new
    → (new.work ≡ lent2.work) × (new.weights ≡ lent2.weights) × (new.shares ≡ lent2.shares)
refused_keeps s = (s.work, s.weights, s.shares)

-- ---- the demands and the range, for any lent slices

module _ {l new : Lent} (s : Solved chain7 l (Ok 8) new) where
  -- no closed set has state 2
  pub set_7 : (other : ℕ → Bool) → Closed 3 (rate_in chain7) other → other 2 ≡ false
  set_7 other c = (s.the_set 8 refl).only other c 2 (lit< tt) ∙ outside_7

  -- demand 2: the exact weights balance the chain, what balances it is in proportion to them, and 0 at state 2
  pub balances_7 : Balances 3 (rate_in chain7) (set_weight 3 (rate_in chain7) (set_of chain7))
  balances_7 = (s.balancing (set_of chain7) only_7).balances

  pub unique_7 : (w : ℕ → ℕ) → Balances 3 (rate_in chain7) w → w 0 * 1 ≡ w 1 * 1
  unique_7 w b = rw (exact_0, exact_1) at (((s.balancing (set_of chain7) only_7).unique w b).at 0 1 (lit< tt) (lit< tt))

  pub nothing_outside_7 : (w : ℕ → ℕ) → Balances 3 (rate_in chain7) w → w 2 ≡ 0
  nothing_outside_7 w b = (s.balancing (set_of chain7) only_7).outside w b 2 (lit< tt) outside_7

  -- demand 3, of what stands in the slices
  abbrev weight : ℕ → Scaled
  weight = number_at new.weights

  abbrev share : ℕ → Scaled
  share = number_at new.shares

  pub weight_2_scaled : is_scaled (weight 2) ≡ true
  weight_2_scaled = (s.accurate 8 refl).weights_scaled 2 (lit< tt)

  pub share_2_scaled : is_scaled (share 2) ≡ true
  share_2_scaled = (s.accurate 8 refl).shares_scaled 2 (lit< tt)

  pub weight_2_zero : weight 2 ≡ zero_number
  weight_2_zero = (s.accurate 8 refl).weights_outside 2 (lit< tt) outside_7

  pub share_2_zero : share 2 ≡ zero_number
  share_2_zero = (s.accurate 8 refl).shares_outside 2 (lit< tt) outside_7

  pub weight_0_not_zero : weight 0 ≢ zero_number
  weight_0_not_zero = (s.accurate 8 refl).weights_inside 0 (lit< tt) inside_7

  pub share_0_not_zero : share 0 ≢ zero_number
  share_0_not_zero = (s.accurate 8 refl).shares_inside 0 (lit< tt) inside_7

  pub last_weight_7 : weight 1 ≡ one_number
  last_weight_7 = rw last_7 at (s.accurate 8 refl).last_weight

  pub weight_0_near : Near factor 8 (val (weight 0) * 1) (one * 1)
  weight_0_near = rw (last_7, exact_0, exact_1) at ((s.accurate 8 refl).weights 0 (lit< tt))

  pub share_0_near : Near factor 18 (val (share 0) * 2) (one * 1)
  share_0_near = rw (size_7, exact_0, exact_sum_lem) at ((s.accurate 8 refl).shares 0 (lit< tt))

-- ---- document 01's useless solver "that leaves the results untouched": demands 2 and 3 each shut it out

-- the weights are the elimination's, and 7 is not its first m
pub untouched_2 : {work shares : Slices} → Solved chain7 lent7 (Ok 8) (record { work = work; weights = lent7.weights; shares = shares }) → ⊥
untouched_2 s = let e = ap (λ (x : Slices). get_or x.m 0 0) (weights_7 s) in absurd (omega (arith, e))

-- (7, 7) is no scaled number, so not near any weight
pub untouched_3 : {w : ℕ → Scaled} → Accurate 3 (rate_in chain7) (set_of chain7) 8 (number_at lent7.weights) w → ⊥
unfolding number_at is_scaled is_scaled_at
untouched_3 a = false≢true (a.weights_scaled 0 (lit< tt))
