use mathlib.Core.Path.{◌∙◌}
use borrow.Author.Rules.{rules}
use borrow.Author.Tests.{tests}
use native.Mathlib.Omega.{arith}
use Rattle.basics.proofs.FoundLaws.{found_by_find}
use Rattle.file_rules.specs.Verdict.{bad_bit}
use Rattle.checking.proofs.File.first_bad_bit.Goals as goal

pub returns : goal.returns
returns c =
    found_by_find (bad_bit c.args.self.bytes.now c.args.self.order c.args.row c.args.map) _ _ _ _ c.find.ensures.ran (omega arith)
    (λ x q k. search (rules, tests)) (λ x q k. search (rules, tests))
    ∙ rw c.map_bytes.ensures
