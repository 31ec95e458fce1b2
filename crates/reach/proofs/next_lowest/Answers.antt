use borrow.Author.Rules.{rules}
use borrow.Author.Tests.{tests}
use Rattle.basics.proofs.FoundLaws.{found_by_find}
use Rattle.reach.specs.Reach.{bits}
use Rattle.reach.specs.ClosedSets.{is_lowest}
use Rattle.reach.proofs.next_lowest.Goals as goal

pub returns : goal.returns
returns c =
    found_by_find (is_lowest c.args.n (bits c.args.rows.now)) _ _ _ _ c.find.ensures.ran c.requires.0
    (λ x q k. search (rules, tests)) (λ x q k. search (rules, tests))
