use mathlib.Core.Path.{◌≡◌}
use Rattle.basics.specs.First.{first}
use Rattle.chain.specs.Rows.{rows_of}
use Rattle.chain.specs.Rules.{row_bad, first_bad_row}
use Rattle.chain.specs.Sound.{SoundStarts}
use Rattle.chain.proofs.lent.Chain.check_columns.Given as goal

-- the search of the rows goes on from here
abbrev pub invariant-loop-row : goal.invariant-loop-row
invariant-loop-row l =
    SoundStarts (rows_of l.self) × (first_bad_row (rows_of l.self) ≡ first (row_bad (rows_of l.self)) l.row l.self.order)
