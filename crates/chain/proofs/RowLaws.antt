-- The row look-up, told by the answer of the check. Assumes nothing.
use Prim.Native.Nat.{ℕ, ◌-◌, ◌<◌, ◌≤◌}
use mathlib.Core.Path.{◌≡◌, sym, ap, ◌∙◌}
use borrow.Author.Tests.{lt-ltb, le-ltb}
use Rattle.std.specs.Prelude.{Result, Ok, Err}
use Rattle.refusal.specs.declared.Refusal.{Refusal}
use Rattle.refusal.specs.Table.{verdict}
use Rattle.chain.specs.Rows.{Rows, begins, ends}
use Rattle.chain.specs.Rules.{checked}
use Rattle.chain.specs.Sound.{Sound}
use Rattle.chain.specs.Row.{empty, row_part}
use Rattle.chain.proofs.Reading.{accepted_sound}

module _ (c : Rows) (row : ℕ) (o : Result ℕ Refusal) (e : verdict o ≡ checked c) where
  pub part_refused : (r : Refusal) → o ≡ Err r → empty ≡ row_part c row
  unfolding row_part
  part_refused r t = rw (← e, t)

  pub part_beyond : (k : ℕ) → o ≡ Ok k → c.order ≤ row → empty ≡ row_part c row
  unfolding row_part
  part_beyond k t h = rw (← e, t, le-ltb row c.order h)

  pub part_inside : (k : ℕ) → o ≡ Ok k → row < c.order → (begins c row, ends c row - begins c row) ≡ row_part c row
  unfolding row_part
  part_inside k t h = rw (← e, t, lt-ltb row c.order h)

  -- the rules of a chain that the check lets pass
  pub done_sound : {k : ℕ} → o ≡ Ok k → Sound c
  done_sound t = accepted_sound c (sym e ∙ ap verdict t)
