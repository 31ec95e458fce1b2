-- The verdict of a joining from the facts that the code has in hand. Assumes nothing.
use mathlib.Core.Bool.{true, false}
use mathlib.Core.Path.{◌≡◌, refl, ap}
use Prim.Native.Nat.{ℕ, ◌+◌, ◌*◌, ◌<◌, ◌≤◌}
use native.Mathlib.Omega.{arith}
use lib.ListN.{get_or}
use borrow.Author.Tests.{le-leb, lt-leb}
use Rattle.basics.proofs.BoolLaws.{by_true, by_false}
use Rattle.refusal.specs.Table.{Side, accepts, refuses, of_chain, numbered}
use Rattle.refusal.specs.declared.Line.{Line}
use Rattle.file_rules.specs.Verdict.{room_to_read}
use Rattle.chain.specs.Rows.{Rows}
use Rattle.chain.specs.Rules.{checked}
use Rattle.chain.proofs.Reading.{accepted_whole, accepted_count}
use Rattle.joined.specs.Verdict.{of_first, of_second, of_joint, joint_tried, join_verdict}
use Rattle.joined.proofs.JoinedLaws.{joined_count}

module _ (n e starts columns rates : ℕ) where
  pub tried_order : 64 < n → refuses of_chain (numbered 15 0 0) ≡ joint_tried n e starts columns rates
  unfolding joint_tried
  tried_order l = by_false _ _ (lt-leb n 64 l) refl

  pub tried_room : {k : ℕ} → n ≤ 64 → k ≡ e → room_to_read n k starts columns rates ≡ true → accepts k ≡ joint_tried n e starts columns rates
  unfolding joint_tried
  tried_room l q t = by_true _ _ (le-leb n 64 l) (by_true _ _ (rw q at t) (ap accepts q))

  pub tried_no_room : {k : ℕ} → n ≤ 64 → k ≡ e → room_to_read n k starts columns rates ≡ false
      → refuses of_chain (numbered 5 0 0) ≡ joint_tried n e starts columns rates
  unfolding joint_tried
  tried_no_room l q t = by_true _ _ (le-leb n 64 l) (by_false _ _ (rw q at t) refl)

-- the orders and the numbers of entries of parts that the check takes
pub order_fits : (c : Rows) {k : ℕ} → checked c ≡ accepts k → c.order ≤ 64
order_fits c e = (accepted_whole c e).sound.order.high

pub count_fits : (c : Rows) {k : ℕ} → checked c ≡ accepts k → get_or c.starts c.order 0 < 4294967296 → k < 4294967296
count_fits c e l = omega (arith, l, (accepted_whole c e).sound.starts_rule.last, accepted_count c e)

module _ (first second : Rows) (starts columns rates : ℕ) where
  -- a part's refusal is passed on
  pub first_refused : {side : Side} {line : Line} → refuses side line ≡ checked first → (of_first, refuses side line) ≡ join_verdict first second starts columns rates
  unfolding join_verdict
  first_refused e = rw (← e)

  pub second_refused : {side : Side} {line : Line} {j : ℕ} → checked first ≡ accepts j → refuses side line ≡ checked second
      → (of_second, refuses side line) ≡ join_verdict first second starts columns rates
  unfolding join_verdict
  second_refused d e = rw (d, ← e)

  -- both parts are taken: 15 and 5 are left
  pub both_taken : {j k : ℕ} → checked first ≡ accepts j → checked second ≡ accepts k
      → (of_joint, joint_tried (first.order * second.order) (second.order * j + first.order * k) starts columns rates)
      ≡ join_verdict first second starts columns rates
  unfolding join_verdict
  both_taken d e =
      rw (d, e, joined_count (accepted_whole first d) (accepted_whole second e), accepted_count first d, accepted_count second e)
