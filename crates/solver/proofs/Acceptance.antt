-- Demand 1: the verdict of solving says what document 01's table says, and a chain is accepted if and only if no refusal describes
-- it. Assumes nothing.
use mathlib.Core.Bool.{Bool, true, false, false≢true}
use mathlib.Core.Path.{◌≡◌, refl, sym, ◌∙◌}
use Prim.Native.Nat.{ℕ}
use native.Mathlib.Omega.{arith}
use Rattle.basics.proofs.BoolLaws.{not_so}
use Rattle.refusal.specs.Table.{Verdict, accepts, refuses}
use Rattle.chain.specs.Rows.{Rows}
use Rattle.chain.specs.Rules.{checked}
use Rattle.chain.proofs.Reading.{checked_says, says_checked, accepted_whole, sound_accepted}
use Rattle.reach.specs.Answer.{answered, AnswerSays}
use Rattle.reach.specs.Answer as reach
use Rattle.reach.proofs.AnswerLaws.{answered_says, says_answered, answer_accepted}
use Rattle.solver.specs.Lent.{Lent, enough_in}
use Rattle.solver.specs.Solve.{count_of, solved, Solvable, SolveSays, rule_broken, no_room, two_closed, solves}
use Rattle.solver.proofs.Room.{roomy, roomy_held}

module _ (c : Rows) (l : Lent) where
  -- from 1 to 4 and 14, to 5, to 6
  at_reach : {k : ℕ} {v : Verdict ℕ} → checked c ≡ accepts k → enough_in c.order l ≡ true → answered c ≡ v → AnswerSays c v
      → SolveSays c l (solved c (enough_in c.order l))
  unfolding solved
  at_reach q b e (reach.rule_broken h) = rw (q, b, e) (rule_broken h)
  at_reach q b e (reach.two_closed s h) = rw (q, b, e) (two_closed s (roomy _ l b) h)
  at_reach q b e (reach.has_answer s h) = rw (q, b, e) (solves (record { accepted = s; room = roomy _ l b; answer = h }))

  at_room : {k : ℕ} → checked c ≡ accepts k → (b : Bool) → enough_in c.order l ≡ b → SolveSays c l (solved c (enough_in c.order l))
  unfolding solved
  at_room q true b = at_reach q b refl (answered_says c)
  at_room q false b = rw (q, b) (no_room (accepted_whole c q) (λ r. false≢true (sym b ∙ roomy_held _ l r)))

  at_rules : (v : Verdict ℕ) → checked c ≡ v → SolveSays c l (solved c (enough_in c.order l))
  unfolding solved
  at_rules (accepts k) q = at_room q (enough_in c.order l) refl
  at_rules (refuses side line) q = rw q (rule_broken (rw q at (checked_says c)))

  pub solved_says : SolveSays c l (solved c (enough_in c.order l))
  solved_says = at_rules (checked c) refl

  -- accepted if and only if no refusal describes the input; the answer is then the bound count
  pub solvable_accepted : Solvable c l → solved c (enough_in c.order l) ≡ accepts (count_of c)
  unfolding solved
  solvable_accepted h = rw (sound_accepted c h.accepted, roomy_held _ l h.room, answer_accepted c h.accepted h.answer)

  pub accepted_solvable : {k : ℕ} → solved c (enough_in c.order l) ≡ accepts k → Solvable c l
  accepted_solvable {k} q = go (solved c (enough_in c.order l)) solved_says q
    where
      go : (v : Verdict ℕ) → SolveSays c l v → v ≡ accepts k → Solvable c l
      go v (solves h) q = h
      go v (rule_broken p) q = let z : ◌≡◌ {A = ℕ} 0 1 = cc in absurd (omega arith)
      go v (no_room s b) q = let z : ◌≡◌ {A = ℕ} 0 1 = cc in absurd (omega arith)
      go v (two_closed s b h) q = let z : ◌≡◌ {A = ℕ} 0 1 = cc in absurd (omega arith)

  -- and a verdict whose facts hold is the verdict: `says` of the contract leaves one answer
  pub says_solved : {v : Verdict ℕ} → SolveSays c l v → v ≡ solved c (enough_in c.order l)
  unfolding solved
  says_solved (rule_broken p) = rw (← says_checked c p)
  says_solved (no_room a h) = rw (sound_accepted c a, not_so (enough_in c.order l) (λ t. h (roomy c.order l t)))
  says_solved (two_closed a room h) = rw (sound_accepted c a, roomy_held c.order l room, ← says_answered c (reach.two_closed a h))
  says_solved (solves h) = sym (solvable_accepted h)
