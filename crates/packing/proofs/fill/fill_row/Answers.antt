-- One turn for each bit; what is still to be put is the invariant of RowFill.
use mathlib.Core.Path.{sym, ap, ◌∙◌}
use Prim.Native.Nat.{ℕ, ◌+◌}
use lib.ListN.{set}
use Rattle.packing.proofs.RowFill.{bit_absent, bit_put, same_filling}
use Rattle.packing.proofs.fill.fill_row.Goals as goal
use Rattle.packing.proofs.fill.fill_row.Goals.{then-bit_at, else-bit_at}

pub loop-j-preserved : goal.loop-j-preserved
loop-j-preserved c = elim c.if-bit_at.branch [
  | then-bit_at w ↦
      same_filling w.columns-is (w.rates-is ∙ ap (λ (v : ℕ). set c.loop-j.rates c.loop-j.entry v) w.rate_at.ensures) w.entry-is
      (w.place-is ∙ ap (λ (v : ℕ). c.loop-j.place + v) w.width_of-place.ensures.0)
      (bit_put _ _ _ _ _ _ _ _ _ _ _ _ c.loop-j.invariant c.loop-j-test.true (sym c.bit_at.ensures ∙ w.if-bit_at.true) _ w.is_marked-mark.ensures)
  | else-bit_at w ↦
      same_filling w.columns-is w.rates-is w.entry-is w.place-is
      (bit_absent _ _ _ _ _ _ _ _ _ _ _ _ c.loop-j.invariant c.loop-j-test.true (sym c.bit_at.ensures ∙ w.if-bit_at.false))
]
