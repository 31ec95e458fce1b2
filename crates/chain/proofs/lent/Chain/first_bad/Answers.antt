use borrow.Author.Rules.{rules}
use borrow.Author.Tests.{tests}
use Rattle.basics.proofs.FoundLaws.{found_by_find}
use Rattle.chain.specs.Rules.{entry_bad}
use Rattle.chain.proofs.lent.Chain.first_bad.Goals as goal

pub returns : goal.returns
returns c =
    found_by_find (entry_bad c.args.self.order c.args.self.columns.now c.args.row c.args.begin) _ _ _ _ c.find.ensures.ran c.requires.0
    (λ x q k. search (rules, tests)) (λ x q k. search (rules, tests))
