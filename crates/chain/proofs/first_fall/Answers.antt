use borrow.Author.Rules.{rules}
use borrow.Author.Tests.{tests}
use native.Mathlib.Omega.{arith}
use Rattle.basics.proofs.FoundLaws.{found_by_find}
use Rattle.chain.specs.Rules.{falls_at}
use Rattle.chain.proofs.first_fall.Goals as goal

pub returns : goal.returns
returns c =
    found_by_find (falls_at c.args.starts.now) _ _ _ _ c.find.ensures.ran (omega arith)
    (λ x q k. search (rules, tests)) (λ x q k. search (rules, tests))
