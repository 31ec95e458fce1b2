-- One turn for each bit, one call of `check_rate` for each rate.
use Rattle.std.proofs.Common.{sym, ◌∙◌, arith}
use Rattle.file_rules.proofs.Checks.{rates_hit, rates_miss}
use Rattle.checking.proofs.File.check_rates.Goals as goal
use Rattle.checking.proofs.File.check_rates.Goals.{then-bit_at+in_ok-place, else-bit_at}

pub loop-j-preserved : goal.loop-j-preserved
loop-j-preserved c = elim c.if-bit_at.branch [
  | then-bit_at+in_ok-place w ↦
      rates_hit _ _ _ _ _ _ _ _ c.loop-j.invariant c.loop-j-test.true (sym c.bit_at.ensures ∙ w.if-bit_at.true) _ (omega arith)
      _ w.is_marked-mark.ensures _ (sym w.in_ok-place.ensures) _ w.place-is
  | else-bit_at w ↦ rates_miss _ _ _ _ _ _ _ _ c.loop-j.invariant c.loop-j-test.true (sym c.bit_at.ensures ∙ w.if-bit_at.false) _ w.place-is
]
