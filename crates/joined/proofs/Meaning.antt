-- The verdict of a joining is the one whose facts hold. Assumes nothing.
use mathlib.Core.Bool.{Bool, true, false, cond, false≢true}
use mathlib.Core.Path.{◌≡◌, refl, sym, ◌∙◌}
use Prim.Native.Nat.{ℕ, ◌*◌, ◌≤◌}
use lib.Dec.{leb}
use lib.ListN.{length}
use borrow.Author.Tests.{leb-true, leb-false}
use Rattle.basics.proofs.BoolLaws.{not_so}
use Rattle.refusal.specs.Table.{Verdict, accepts, refuses, of_chain, numbered}
use Rattle.chain.specs.Rows.{Rows}
use Rattle.chain.specs.Rules.{checked}
use Rattle.chain.specs.Sound.{Accepted}
use Rattle.chain.proofs.Reading.{checked_says, says_checked, accepted_whole, sound_accepted}
use Rattle.file_rules.specs.Verdict.{room_to_read}
use Rattle.file_rules.proofs.Answers.{has_room, room_is}
use Rattle.joined.specs.Joined.{joined, entries_of}
use Rattle.joined.specs.Verdict.{Whose, of_first, of_second, of_joint, part_then, joint_tried, join_verdict}
use Rattle.joined.specs.Verdict.{JoinSays, first_broken, second_broken, order_broken, room_short, joins}
use Rattle.joined.proofs.JoinedLaws.{joined_count}
use Rattle.joined.proofs.Verdicts.{tried_order, tried_room, tried_no_room}

module _ (first second : Rows) (starts columns rates : ℕ) where
  abbrev n : ℕ
  n = first.order * second.order

  abbrev tried : ℕ → Verdict ℕ
  tried entries = joint_tried n entries starts columns rates

  -- the joint chain of two parts that are taken
  joint_says : Accepted first → Accepted second → JoinSays first second starts columns rates (of_joint, tried (entries_of first second))
  unfolding joint_tried
  joint_says p q = at_order (leb n 64) refl
    where
      e : ℕ
      e = entries_of first second

      at_room : n ≤ 64 → (b : Bool) → room_to_read n e starts columns rates ≡ b
          → JoinSays first second starts columns rates (of_joint, cond b (accepts e) (refuses of_chain (numbered 5 0 0)))
      at_room l true t = joins (record { first_accepted = p; second_accepted = q; order = l }) (has_room n e starts columns rates t)
      at_room l false t =
          room_short (record { first_accepted = p; second_accepted = q; order = l }) (λ h. let z = sym t ∙ room_is n e starts columns rates h in false≢true z)

      at_order : (b : Bool) → leb n 64 ≡ b
          → JoinSays first second starts columns rates
          (of_joint, cond b (cond (room_to_read n e starts columns rates) (accepts e) (refuses of_chain (numbered 5 0 0))) (refuses of_chain (numbered 15 0 0)))
      at_order true t = at_room (leb-true n 64 t) (room_to_read n e starts columns rates) refl
      at_order false t = order_broken p q (leb-false n 64 t)

  -- what the verdict says holds
  pub join_says : JoinSays first second starts columns rates (join_verdict first second starts columns rates)
  unfolding join_verdict
  join_says = at_first (checked first) refl
    where
      last : Whose × Verdict ℕ
      last = (of_joint, tried (length (joined first second).columns))

      at_second : Accepted first → (v : Verdict ℕ) → checked second ≡ v → JoinSays first second starts columns rates (part_then of_second v last)
      at_second p (refuses side line) e = second_broken p (rw e at (checked_says second))
      at_second p (accepts k) e =
          let q = accepted_whole second e in
          rw (joined_count p q) (joint_says p q)

      at_first : (v : Verdict ℕ) → checked first ≡ v → JoinSays first second starts columns rates (part_then of_first v (part_then of_second (checked second) last))
      at_first (refuses side line) e = first_broken (rw e at (checked_says first))
      at_first (accepts k) e = at_second (accepted_whole first e) (checked second) refl

  -- and no other verdict has facts that hold
  taken : {v : Verdict ℕ} → Accepted first → Accepted second → v ≡ tried (entries_of first second) → (of_joint, v) ≡ join_verdict first second starts columns rates
  unfolding join_verdict
  taken p q e = rw (sound_accepted first p, sound_accepted second q, joined_count p q, e)

  pub says_join : {v : Whose × Verdict ℕ} → JoinSays first second starts columns rates v → v ≡ join_verdict first second starts columns rates
  unfolding join_verdict
  says_join (first_broken s) = rw (← says_checked first s)
  says_join (second_broken p s) = rw (sound_accepted first p, ← says_checked second s)
  says_join (order_broken p q l) = taken p q (tried_order _ _ _ _ _ l)
  says_join (room_short j h) =
      taken j.first_accepted j.second_accepted (tried_no_room _ _ _ _ _ j.order refl (not_so _ (λ t. h (has_room n (entries_of first second) starts columns rates t))))
  says_join (joins j h) = taken j.first_accepted j.second_accepted (tried_room _ _ _ _ _ j.order refl (room_is n (entries_of first second) starts columns rates h))
