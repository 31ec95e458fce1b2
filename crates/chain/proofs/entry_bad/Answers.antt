use mathlib.Core.Path.{sym}
use Rattle.chain.proofs.RulesLaws.{entry_high, entry_own, entry_begin, entry_later}
use Rattle.chain.proofs.entry_bad.Goals as goal

pub returns-then-n-column : goal.returns-then-n-column
returns-then-n-column c = sym (entry_high _ _ _ _ _ c.if-n-column.true)

pub returns-then-column-row : goal.returns-then-column-row
returns-then-column-row c = sym (entry_own _ _ _ _ _ c.if-column-row.true)

pub returns-then-place-begin : goal.returns-then-place-begin
returns-then-place-begin c =
    sym (entry_begin _ _ _ _ _ c.if-n-column.false c.if-column-row.false c.if-place-begin.true)

pub returns : goal.returns
returns c =
    sym (entry_later _ _ _ _ _ c.if-n-column.false c.if-column-row.false c.if-place-begin.false)
