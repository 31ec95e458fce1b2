-- The definition `answered` gives exactly the verdict whose facts hold: a chain is accepted if and only if the rules hold, no rate is
-- 0 and it has exactly one closed set, and 6 names the two lowest of the sets' lowest states. Assumes nothing.
use Prim.Native.Nat.{ℕ, zero, ◌+◌, ◌<◌, ◌≤◌}
use mathlib.Core.Bool.{Bool, true, false, cond, not, ◌&&◌, ◌||◌}
use mathlib.Core.Path.{◌≡◌, refl, sym, ap, ap₂, ◌∙◌}
use native.Mathlib.Omega.{arith}
use lib.Dec.{ltb}
use lib.ListN.{length}
use borrow.Author.Tests.{ltb-true, ltb-false, lt-ltb, le-ltb}
use Rattle.refusal.specs.Table.{Verdict, accepts, refuses, of_chain, numbered, and_then}
use Rattle.basics.specs.First.{first}
use Rattle.basics.proofs.FirstLaws.{first_cong}
use Rattle.basics.proofs.BoolLaws.{by_true, by_false, all_cong}
use Rattle.markov.specs.Chain.{Rates}
use Rattle.markov.specs.Closed.{OnlyClosed, HasAnswer}
use Rattle.chain.specs.Rows.{Rows}
use Rattle.chain.specs.Rules.{checked}
use Rattle.chain.specs.Sound.{Sound, Accepted}
use Rattle.chain.specs.Meaning.{rate_in}
use Rattle.chain.proofs.Reading.{checked_says, says_checked, sound_accepted, accepted_whole}
use Rattle.reach.specs.Reach.{via}
use Rattle.reach.specs.ClosedSets.{settles, is_lowest, first_lowest, second_lowest, TwoClosed}
use Rattle.reach.specs.Answer.{one_closed, answered, set_of, AnswerSays, rule_broken, two_closed, has_answer}
use Rattle.reach.proofs.Lowest.{two_found, two_places, one_found, answer_one}
use Rattle.reach.proofs.OneClosed.{via_tells}

-- ---- 6 and the set depend only on what the states below n reach

module _ (n : ℕ) (f h : ℕ → ℕ → Bool) (e : (i j : ℕ) → i < n → j < n → f i j ≡ h i j) where
  lowest_cong : (i : ℕ) → i < n → is_lowest n f i ≡ is_lowest n h i
  unfolding is_lowest settles
  lowest_cong i l =
      ap₂ ◌&&◌ (all_cong i (λ j m. ap not (e i j l (omega arith)))) (all_cong n (λ j m. ap₂ (λ (a b : Bool). not a || b) (e i j l m) (e j i m l)))

  pub first_lowest_cong : first_lowest n f ≡ first_lowest n h
  unfolding first_lowest
  first_lowest_cong = first_cong (is_lowest n f) (is_lowest n h) 0 n (λ i _ l. lowest_cong i l)

  second_lowest_cong : second_lowest n f ≡ second_lowest n h
  unfolding second_lowest
  second_lowest_cong =
      first_cong (is_lowest n f) (is_lowest n h) (first_lowest n f + 1) n (λ i _ l. lowest_cong i l)
      ∙ ap (λ (x : ℕ). first (is_lowest n h) (x + 1) n) first_lowest_cong

  pub one_closed_cong : (given : ℕ) → one_closed n f given ≡ one_closed n h given
  unfolding one_closed
  one_closed_cong given = rw (first_lowest_cong, second_lowest_cong)

-- 6 from the places found
pub places_refused : (n : ℕ) (reached : ℕ → ℕ → Bool) (given first second : ℕ) → second < n → first ≡ first_lowest n reached → second ≡ second_lowest n reached
    → refuses of_chain (numbered 6 first second) ≡ one_closed n reached given
unfolding one_closed
places_refused n reached given first second l p q = by_true _ _ (lt-ltb (second_lowest n reached) n (omega arith)) (rw (p, q))

pub places_none : (n : ℕ) (reached : ℕ → ℕ → Bool) (given second : ℕ) → n ≤ second → second ≡ second_lowest n reached → accepts given ≡ one_closed n reached given
unfolding one_closed
places_none n reached given second l q = by_false _ _ (le-ltb (second_lowest n reached) n (omega arith)) refl

-- ---- what 6 says

module _ (n : ℕ) (rate : Rates) (some : zero < n) where
  two_closed_is : {i j : ℕ} (given : ℕ) → TwoClosed n rate i j → refuses of_chain (numbered 6 i j) ≡ one_closed n (via rate n) given
  two_closed_is {i} {j} given h =
      let p = two_places (via_tells n rate) some h in
      places_refused n (via rate n) given i j h.two_lowest.below p.0 p.1

  has_answer_is : (given : ℕ) → HasAnswer n rate → accepts given ≡ one_closed n (via rate n) given
  has_answer_is given h = places_none n (via rate n) given (second_lowest n (via rate n)) (answer_one (via_tells n rate) some h) refl

-- ---- the whole verdict

module _ (c : Rows) where
  -- whether i reaches j
  abbrev reached : ℕ → ℕ → Bool
  reached = via (rate_in c) c.order

  -- where the search finds no second closed set, the set that it found is the only one
  only_set : Sound c → c.order ≤ second_lowest c.order reached → OnlyClosed c.order (rate_in c) (set_of c)
  unfolding set_of
  only_set s l = one_found (via_tells c.order (rate_in c)) s.order.low l

  one_closed_says : Accepted c → AnswerSays c (one_closed c.order reached (length c.columns))
  unfolding one_closed
  one_closed_says s = go (ltb (second_lowest c.order reached) c.order) refl
    where
      go : (b : Bool) → ltb (second_lowest c.order reached) c.order ≡ b
          → AnswerSays c
          (cond b (refuses of_chain (numbered 6 (first_lowest c.order reached) (second_lowest c.order reached))) (accepts (length c.columns)))
      go true t = two_closed s (two_found (via_tells c.order (rate_in c)) s.sound.order.low (ltb-true _ _ t))
      go false t = has_answer s (record { set = set_of c; one = only_set s.sound (ltb-false _ _ t) })

  -- what the verdict says of the chain holds
  pub answered_says : AnswerSays c (answered c)
  unfolding answered
  answered_says = go (checked c) refl
    where
      go : (v : Verdict ℕ) → checked c ≡ v → AnswerSays c (and_then v (λ _. one_closed c.order reached (length c.columns)))
      go (accepts k) e = one_closed_says (accepted_whole c e)
      go (refuses side line) e = rule_broken (rw e at (checked_says c))

  -- a verdict whose facts hold is the verdict
  pub says_answered : {v : Verdict ℕ} → AnswerSays c v → v ≡ answered c
  unfolding answered
  says_answered (rule_broken s) = rw (← says_checked c s)
  says_answered (two_closed s h) = rw (sound_accepted c s) (two_closed_is c.order (rate_in c) s.sound.order.low (length c.columns) h)
  says_answered (has_answer s h) = rw (sound_accepted c s) (has_answer_is c.order (rate_in c) s.sound.order.low (length c.columns) h)

  -- a chain is accepted if and only if the check takes it and it has an answer
  pub answer_accepted : Accepted c → HasAnswer c.order (rate_in c) → answered c ≡ accepts (length c.columns)
  answer_accepted s h = sym (says_answered (has_answer s h))

  pub accepted_answer : {k : ℕ} → answered c ≡ accepts k → Accepted c × HasAnswer c.order (rate_in c)
  accepted_answer {k} e = of_says (answered c) answered_says e
    where
      of_says : (v : Verdict ℕ) → AnswerSays c v → v ≡ accepts k → Accepted c × HasAnswer c.order (rate_in c)
      of_says v (has_answer s h) q = (s, h)
      of_says v (rule_broken e) q = let z : ◌≡◌ {A = ℕ} 0 1 = cc in absurd (omega arith)
      of_says v (two_closed s h) q = let z : ◌≡◌ {A = ℕ} 0 1 = cc in absurd (omega arith)

  -- and its only closed set is the computed one
  pub answer_set : Sound c → HasAnswer c.order (rate_in c) → OnlyClosed c.order (rate_in c) (set_of c)
  answer_set s h = only_set s (answer_one (via_tells c.order (rate_in c)) s.order.low h)
