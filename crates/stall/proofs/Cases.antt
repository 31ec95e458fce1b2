-- What the contracts of the exported calls say of single inputs, by evaluation: the number that is returned, and every place of the answer
-- slice and of the slices lent for a result. Slices of 7s tell what is kept. Assumes nothing.
use mathlib.Core.List.{List, [], ◌∷◌}
use mathlib.Core.Path.{◌≡◌, ◌∙◌}
use Prim.Native.Nat.{ℕ}
use lib.ListN.{replicate}
use Rattle.refusal.specs.Table.{accepts}
use Rattle.chain.specs.Rows.{Rows, rows}
use Rattle.chain.specs.Rules.{starts_sound, entry_bad, columns_checked, rules_checked, zeros_checked, checked}
use Rattle.layout.specs.declared.Form.{Form}
use Rattle.layout.specs.declared.Form.TheVariants.{One, Two}
use Rattle.layout.specs.Forms.{form_in, order_in}
use Rattle.layout.specs.Bytes.{bit_at, short_rate, stored_rate}
use Rattle.layout.specs.Buffers.{Buffers, buffers}
use Rattle.file_rules.specs.Verdict.{marks_checked, mark_checked, rate_checked, row_checked, file_checked, room_to_read, read_verdict}
use Rattle.storage.specs.Writing.{write_verdict}
use Rattle.joined.specs.Verdict.{join_verdict}
use Rattle.joined.proofs.Cases.{two, zero_rate, two_ring, room_for_two_ring}
use Rattle.solver.specs.Lent.{Lent, enough_in}
use Rattle.solver.specs.Solve.{solved}
use Rattle.group_shares.specs.GroupShares.{GroupLent, enough_for, groups_solved}
use Rattle.telling.specs.Answer.{handed}
use Rattle.stall.specs.Calls.{SolveCalled, GroupsCalled, ReadCalled, WriteCalled, JoinCalled}

abbrev sevens : ℕ → List ℕ
sevens k = replicate k 7

-- case 3; `two` is case 2 and `zero_rate` case 6
abbrev ring : Rows
ring = rows 3 (0 ∷ 1 ∷ 2 ∷ 3 ∷ []) (1 ∷ 2 ∷ 0 ∷ []) (2 ∷ 4 ∷ 8 ∷ [])

module _ {r : ℕ} {answer' : List ℕ} where
  -- ---- stall_solve and stall_solve_groups

  -- accepted: 0, and the bound count first
  pub solve_accepted : {c : Rows} {old new : Lent} {k : ℕ} → SolveCalled c old (sevens 4) r new answer' → solved c (enough_in c.order old) ≡ accepts k
      → (r ≡ 0) × (answer' ≡ k ∷ 0 ∷ 0 ∷ 7 ∷ [])
  unfolding handed
  solve_accepted c e = let t = rw e at c.told in (t.returned, t.answer_is)

  pub groups_accepted : {c : Rows} {table : List ℕ} {old new : GroupLent} {k : ℕ} → GroupsCalled c table old (sevens 4) r new answer'
      → groups_solved c table (enough_for c.order old) ≡ accepts k → (r ≡ 0) × (answer' ≡ k ∷ 0 ∷ 0 ∷ 7 ∷ [])
  unfolding handed
  groups_accepted c e = let t = rw e at c.told in (t.returned, t.answer_is)

  -- "Case 6 becomes 14, (0, 1)", of the chain; all is kept
  pub zero_rate_solved : {old new : Lent} → SolveCalled zero_rate old (sevens 4) r new answer'
      → (r ≡ 14) × (answer' ≡ 0 ∷ 1 ∷ 0 ∷ 7 ∷ []) × (new.work ≡ old.work) × (new.weights ≡ old.weights) × (new.shares ≡ old.shares)
  unfolding solved checked rules_checked zeros_checked starts_sound columns_checked entry_bad handed
  zero_rate_solved c =
      let a = c.call.answer in
      (c.told.returned, c.told.answer_is, rw a at c.call.work, rw a at c.call.weights, rw a at c.call.shares)

  pub zero_rate_grouped : {table : List ℕ} {old new : GroupLent} → GroupsCalled zero_rate table old (sevens 4) r new answer'
      → (r ≡ 14) × (answer' ≡ 0 ∷ 1 ∷ 0 ∷ 7 ∷ []) × (new.groups ≡ old.groups)
  unfolding groups_solved checked rules_checked zeros_checked starts_sound columns_checked entry_bad handed
  zero_rate_grouped c = (c.told.returned, c.told.answer_is, rw c.call.answer at c.call.groups)

  -- ---- stall_read

  -- case 6's bytes: 14, of the bytes; all is kept
  pub zero_rate_read : {old new : Buffers} → ReadCalled (2 ∷ 2 ∷ 0 ∷ 0 ∷ 0 ∷ 0 ∷ 1 ∷ 5 ∷ 0 ∷ 0 ∷ 0 ∷ []) old (sevens 4) r new answer'
      → (r ≡ 14) × (answer' ≡ 0 ∷ 1 ∷ 1 ∷ 7 ∷ []) × (new.starts ≡ old.starts) × (new.columns ≡ old.columns) × (new.rates ≡ old.rates)
  unfolding read_verdict file_checked row_checked marks_checked rate_checked mark_checked form_in order_in bit_at stored_rate handed
  zero_rate_read c =
      let a = c.call.answer in
      (c.told.returned, c.told.answer_is, rw a at c.call.starts_are, rw a at c.call.columns_are, rw a at c.call.rates_are)

  -- case 2's bytes: order 2, two entries, form 1
  pub two_read : {new : Buffers}
      → ReadCalled (2 ∷ 2 ∷ 3 ∷ 0 ∷ 0 ∷ 0 ∷ 1 ∷ 1 ∷ 0 ∷ 0 ∷ 0 ∷ []) (buffers (sevens 3) (sevens 3) (sevens 2)) (sevens 4) r new answer'
      → (r ≡ 0) × (answer' ≡ 2 ∷ 2 ∷ 1 ∷ 7 ∷ []) × (new.starts ≡ 0 ∷ 1 ∷ 2 ∷ []) × (new.columns ≡ 1 ∷ 0 ∷ 7 ∷ []) × (new.rates ≡ 3 ∷ 1 ∷ [])
  unfolding read_verdict file_checked row_checked marks_checked rate_checked mark_checked form_in order_in bit_at stored_rate room_to_read handed
  two_read c =
      let a = c.call.answer in
      (c.told.returned, c.told.answer_is, rw a at c.call.starts_are, rw a at c.call.columns_are, rw a at c.call.rates_are)

  -- the same in form 2
  pub two_short_read : {new : Buffers}
      → ReadCalled (130 ∷ 2 ∷ 2 ∷ 3 ∷ 0 ∷ 1 ∷ 1 ∷ 1 ∷ 0 ∷ []) (buffers (sevens 3) (sevens 3) (sevens 2)) (sevens 4) r new answer'
      → (r ≡ 0) × (answer' ≡ 2 ∷ 2 ∷ 2 ∷ 7 ∷ []) × (new.starts ≡ 0 ∷ 1 ∷ 2 ∷ []) × (new.columns ≡ 1 ∷ 0 ∷ 7 ∷ []) × (new.rates ≡ 3 ∷ 1 ∷ [])
  unfolding read_verdict file_checked row_checked marks_checked rate_checked mark_checked form_in order_in bit_at short_rate room_to_read handed
  two_short_read c =
      let a = c.call.answer in
      (c.told.returned, c.told.answer_is, rw a at c.call.starts_are, rw a at c.call.columns_are, rw a at c.call.rates_are)

  -- an unmarked rate below 65,536 in row 1: 16, of the bytes; all is kept
  pub unmarked_read : {old new : Buffers} → ReadCalled (131 ∷ 0 ∷ 0 ∷ 4 ∷ 0 ∷ 3 ∷ 0 ∷ 0 ∷ 0 ∷ []) old (sevens 4) r new answer'
      → (r ≡ 16) × (answer' ≡ 1 ∷ 2 ∷ 1 ∷ 7 ∷ []) × (new.starts ≡ old.starts) × (new.columns ≡ old.columns) × (new.rates ≡ old.rates)
  unfolding read_verdict file_checked row_checked marks_checked rate_checked mark_checked form_in order_in bit_at stored_rate handed
  unmarked_read c =
      let a = c.call.answer in
      (c.told.returned, c.told.answer_is, rw a at c.call.starts_are, rw a at c.call.columns_are, rw a at c.call.rates_are)

  -- ---- stall_write and stall_write_short

  -- case 2: 11 bytes in form 1, nine in form 2
  pub two_written : {out' : List ℕ} → WriteCalled One two (sevens 12) (sevens 4) r out' answer'
      → (r ≡ 0) × (answer' ≡ 11 ∷ 0 ∷ 0 ∷ 7 ∷ []) × (out' ≡ 2 ∷ 2 ∷ 3 ∷ 0 ∷ 0 ∷ 0 ∷ 1 ∷ 1 ∷ 0 ∷ 0 ∷ 0 ∷ 7 ∷ [])
  unfolding write_verdict checked rules_checked zeros_checked starts_sound columns_checked entry_bad handed
  two_written c = (c.told.returned, c.told.answer_is, rw c.call.answer at c.call.out_is)

  pub two_short_written : {out' : List ℕ} → WriteCalled Two two (sevens 12) (sevens 4) r out' answer'
      → (r ≡ 0) × (answer' ≡ 9 ∷ 0 ∷ 0 ∷ 7 ∷ []) × (out' ≡ 130 ∷ 2 ∷ 2 ∷ 3 ∷ 0 ∷ 1 ∷ 1 ∷ 1 ∷ 0 ∷ 7 ∷ 7 ∷ 7 ∷ [])
  unfolding write_verdict checked rules_checked zeros_checked starts_sound columns_checked entry_bad handed
  two_short_written c = (c.told.returned, c.told.answer_is, rw c.call.answer at c.call.out_is)

  -- a byte too few for form 2: 5, of the chain
  pub two_short_no_room : {out' : List ℕ} → WriteCalled Two two (sevens 8) (sevens 4) r out' answer' → (r ≡ 5) × (answer' ≡ 0 ∷ 0 ∷ 0 ∷ 7 ∷ []) × (out' ≡ sevens 8)
  unfolding write_verdict checked rules_checked zeros_checked starts_sound columns_checked entry_bad handed
  two_short_no_room c = (c.told.returned, c.told.answer_is, rw c.call.answer at c.call.out_is)

  -- case 6: 14, of the chain
  pub zero_rate_written : {form : Form} {out out' : List ℕ} → WriteCalled form zero_rate out (sevens 4) r out' answer'
      → (r ≡ 14) × (answer' ≡ 0 ∷ 1 ∷ 0 ∷ 7 ∷ []) × (out' ≡ out)
  unfolding write_verdict checked rules_checked zeros_checked starts_sound columns_checked entry_bad handed
  zero_rate_written c = (c.told.returned, c.told.answer_is, rw c.call.answer at c.call.out_is)

  -- ---- stall_join

  -- a refusal of the first part is told as the first's, though the second is refused too
  pub first_part_first : {old new : Buffers} → JoinCalled zero_rate (rows 0 [] [] []) old (sevens 5) r new answer'
      → (r ≡ 14) × (answer' ≡ 0 ∷ 1 ∷ 0 ∷ 1 ∷ 7 ∷ []) × (new.columns ≡ old.columns)
  unfolding join_verdict checked rules_checked zeros_checked starts_sound columns_checked entry_bad handed
  first_part_first c = (c.told.returned, c.told.answer_is, rw c.call.answer at c.call.columns_are)

  -- cases 2 and 3, in this order
  pub two_ring_joined : {new : Buffers} → JoinCalled two ring (buffers (sevens 7) (sevens 12) (sevens 12)) (sevens 5) r new answer'
      → (r ≡ 0) × (answer' ≡ 12 ∷ 0 ∷ 0 ∷ 0 ∷ 7 ∷ []) × (new.starts ≡ 0 ∷ 2 ∷ 4 ∷ 6 ∷ 8 ∷ 10 ∷ 12 ∷ [])
      × (new.columns ≡ 1 ∷ 3 ∷ 2 ∷ 4 ∷ 0 ∷ 5 ∷ 0 ∷ 4 ∷ 1 ∷ 5 ∷ 2 ∷ 3 ∷ []) × (new.rates ≡ 2 ∷ 3 ∷ 4 ∷ 3 ∷ 8 ∷ 3 ∷ 1 ∷ 2 ∷ 1 ∷ 4 ∷ 1 ∷ 8 ∷ [])
  unfolding handed
  two_ring_joined c =
      let t = rw room_for_two_ring.0 at c.told in
      let a = c.call.answer ∙ room_for_two_ring.0 in (
        t.returned,
        t.answer_is,
        rw (a, two_ring) at c.call.starts_are,
        rw (a, two_ring) at c.call.columns_are,
        rw (a, two_ring) at c.call.rates_are,
      )
