use native.Mathlib.Omega.{arith}
use Rattle.reach.proofs.StepLaws.{entry_yes, entry_no}
use Rattle.reach.proofs.with_entry.Goals as goal

pub returns-then-rate-gt0 : goal.returns-then-rate-gt0
returns-then-rate-gt0 c = entry_yes _ _ c.args.rate _ (omega (arith, c.if-rate-gt0.true)) c.set_bit.ensures

pub returns-else-rate-gt0 : goal.returns-else-rate-gt0
returns-else-rate-gt0 c = entry_no _ _ c.args.rate (omega (arith, c.if-rate-gt0.false))
