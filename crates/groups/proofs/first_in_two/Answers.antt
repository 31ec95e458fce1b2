use Rattle.std.proofs.Common.{ℕ, leb, get_or, rules, arith}
use borrow.Author.Tests.{tests}
use Rattle.basics.proofs.FoundLaws.{found_by_find}
use Rattle.groups.proofs.first_in_two.Goals as goal

pub returns : goal.returns
returns c =
    found_by_find (λ (s : ℕ). leb 2 (get_or c.args.seen.now s 0)) _ _ _ _ c.find.ensures.ran (omega arith)
    (λ x q k. search (rules, tests)) (λ x q k. search (rules, tests))
