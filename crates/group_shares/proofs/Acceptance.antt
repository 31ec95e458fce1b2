-- What the verdict of solving with a table says holds, no other verdict has facts that hold, and an input is accepted if and only if no
-- refusal describes it. Assumes nothing.
use mathlib.Core.Bool.{Bool, true, false, false≢true}
use mathlib.Core.List.{List}
use mathlib.Core.Path.{◌≡◌, refl, sym, ◌∙◌}
use Prim.Native.Nat.{ℕ}
use native.Mathlib.Omega.{arith}
use borrow.Author.Tests.{le-leb, leb-true}
use lib.Dec.{leb}
use lib.ListN.{length}
use Rattle.basics.proofs.BoolLaws.{and_yes, both, not_so}
use Rattle.refusal.specs.Table.{Verdict, accepts, refuses}
use Rattle.chain.specs.Rows.{Rows}
use Rattle.chain.specs.Rules.{checked}
use Rattle.chain.proofs.Reading as rules
use Rattle.reach.specs.Answer.{answered, AnswerSays}
use Rattle.reach.specs.Answer as reach
use Rattle.reach.proofs.AnswerLaws.{answered_says, says_answered, answer_accepted}
use Rattle.solver.specs.Lent.{enough_in}
use Rattle.solver.specs.Solve.{count_of, solved}
use Rattle.solver.proofs.Room.{roomy, roomy_held}
use Rattle.group_table.specs.Rules.{table_checked}
use Rattle.group_table.specs.Sums.{group_places}
use Rattle.group_table.proofs.Reading as tables
use Rattle.group_shares.specs.GroupShares.{GroupLent, enough_for, GroupRoomy, groups_solved, GroupsSolvable, GroupsSay, rule_broken, table_broken, no_room, two_closed, solves}

-- ---- the room

module _ (n : ℕ) (l : GroupLent) where
  pub room_of : enough_for n l ≡ true → GroupRoomy n l
  room_of h =
      let t = both (enough_in n l.solving) _ h in
      let u = both (leb group_places (length l.groups.m)) _ t.1 in
      record { for_solving = roomy n l.solving t.0; for_groups = record { for_m = leb-true _ _ u.0; for_e = leb-true _ _ u.1 } }

  pub room_held : GroupRoomy n l → enough_for n l ≡ true
  room_held r =
      and_yes _ _ (roomy_held n l.solving r.for_solving)
      (and_yes _ _ (le-leb _ _ r.for_groups.for_m) (le-leb _ _ r.for_groups.for_e))

module _ (c : Rows) (table : List ℕ) (l : GroupLent) where
  -- ---- from 1 to 4 and 14, to 13, 12 and 11, to 5, to 6

  at_reach : {k j : ℕ} {v : Verdict ℕ} → checked c ≡ accepts k → table_checked c.order table ≡ accepts j → enough_for c.order l ≡ true
      → answered c ≡ v → AnswerSays c v → GroupsSay c table l (groups_solved c table (enough_for c.order l))
  unfolding groups_solved solved
  at_reach q t b e (reach.rule_broken h) = rw (q, t, b, e) (rule_broken h)
  at_reach q t b e (reach.two_closed s h) = rw (q, t, b, e) (two_closed s (tables.accepted_sound _ _ t) (room_of _ l b) h)
  at_reach q t b e (reach.has_answer s h) =
      rw (q, t, b, e) (solves (record { accepted = s; table_sound = tables.accepted_sound _ _ t; room = room_of _ l b; answer = h }))

  at_room : {k j : ℕ} → checked c ≡ accepts k → table_checked c.order table ≡ accepts j → (b : Bool) → enough_for c.order l ≡ b
      → GroupsSay c table l (groups_solved c table (enough_for c.order l))
  unfolding groups_solved solved
  at_room q t true b = at_reach q t b refl (answered_says c)
  at_room q t false b =
      rw (q, t, b) (no_room (rules.accepted_whole c q) (tables.accepted_sound _ _ t) (λ r. false≢true (sym b ∙ room_held _ l r)))

  at_table : {k : ℕ} → checked c ≡ accepts k → (v : Verdict ℕ) → table_checked c.order table ≡ v
      → GroupsSay c table l (groups_solved c table (enough_for c.order l))
  unfolding groups_solved
  at_table q (accepts j) t = at_room q t (enough_for c.order l) refl
  at_table q (refuses side line) t = rw (q, t) (table_broken (rules.accepted_whole c q) (rw t at (tables.checked_says c.order table)))

  at_rules : (v : Verdict ℕ) → checked c ≡ v → GroupsSay c table l (groups_solved c table (enough_for c.order l))
  unfolding groups_solved
  at_rules (accepts k) q = at_table q (table_checked c.order table) refl
  at_rules (refuses side line) q = rw q (rule_broken (rw q at (rules.checked_says c)))

  pub solved_says : GroupsSay c table l (groups_solved c table (enough_for c.order l))
  solved_says = at_rules (checked c) refl

  -- ---- accepted if and only if no refusal describes the input; the answer is then the bound count

  pub solvable_accepted : GroupsSolvable c table l → groups_solved c table (enough_for c.order l) ≡ accepts (count_of c)
  unfolding groups_solved solved
  solvable_accepted h =
      rw (rules.sound_accepted c h.accepted, tables.sound_accepted _ _ h.table_sound, room_held _ l h.room, answer_accepted c h.accepted h.answer)

  pub accepted_solvable : {k : ℕ} → groups_solved c table (enough_for c.order l) ≡ accepts k → GroupsSolvable c table l
  accepted_solvable {k} q = go (groups_solved c table (enough_for c.order l)) solved_says q
    where
      go : (v : Verdict ℕ) → GroupsSay c table l v → v ≡ accepts k → GroupsSolvable c table l
      go v (solves h) q = h
      go v (rule_broken p) q = let z : ◌≡◌ {A = ℕ} 0 1 = cc in absurd (omega arith)
      go v (table_broken s t) q = let z : ◌≡◌ {A = ℕ} 0 1 = cc in absurd (omega arith)
      go v (no_room s t b) q = let z : ◌≡◌ {A = ℕ} 0 1 = cc in absurd (omega arith)
      go v (two_closed s t b h) q = let z : ◌≡◌ {A = ℕ} 0 1 = cc in absurd (omega arith)

  -- ---- a verdict whose facts hold is the verdict

  pub says_solved : {v : Verdict ℕ} → GroupsSay c table l v → v ≡ groups_solved c table (enough_for c.order l)
  unfolding groups_solved solved
  says_solved (rule_broken p) = rw (← rules.says_checked c p)
  says_solved (table_broken s t) = rw (rules.sound_accepted c s, ← tables.says_checked _ _ t)
  says_solved (no_room s t b) =
      rw (rules.sound_accepted c s, tables.sound_accepted _ _ t, not_so (enough_for c.order l) (λ h. b (room_of _ l h)))
  says_solved (two_closed s t b h) =
      rw (rules.sound_accepted c s, tables.sound_accepted _ _ t, room_held _ l b, ← says_answered c (reach.two_closed s h))
  says_solved (solves h) = sym (solvable_accepted h)
