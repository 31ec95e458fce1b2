-- `check_rates`: one turn for each bit, one call of `check_rate` for each rate. Assumes nothing.
use Rattle.file_rules.proofs.Checks.{RatesLeft}
use Rattle.checking.proofs.File.check_rates.Given as goal

abbrev pub invariant-loop-j : goal.invariant-loop-j
invariant-loop-j l = RatesLeft l.self.zeros l.self.form l.self.bytes.now l.self.order l.row l.map l.j l.place
