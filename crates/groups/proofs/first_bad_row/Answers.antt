use borrow.Author.Rules.{rules}
use borrow.Author.Tests.{tests}
use mathlib.Core.Path.{sym}
use native.Mathlib.Omega.{arith}
use Rattle.basics.proofs.FoundLaws.{found_by_find}
use Rattle.group_table.specs.Rules.{row_bad}
use Rattle.groups.proofs.first_bad_row.Goals as goal

pub returns : goal.returns
returns c =
    rw (sym c.row_count.ensures)
    (found_by_find (row_bad c.args.n c.args.table.now) _ _ _ _ c.find.ensures.ran (omega arith)
    (λ x q k. search (rules, tests)) (λ x q k. search (rules, tests)))
