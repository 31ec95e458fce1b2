-- `check_rows`: one call of `check_row` for each row, then what is left over. Assumes nothing.
use Rattle.file_rules.proofs.Checks.{RowsLeft}
use Rattle.checking.proofs.File.check_rows.Given as goal

abbrev pub invariant-loop-row : goal.invariant-loop-row
invariant-loop-row l = RowsLeft l.self.zeros l.self.form l.self.bytes.now l.self.order l.row l.map l.entries
