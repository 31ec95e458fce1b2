use Prim.Native.Nat.{ℕ}
use lib.Dec.{eqb}
use lib.ListN.{get_or}
use borrow.Author.Rules.{rules}
use borrow.Author.Tests.{tests}
use Rattle.basics.proofs.FoundLaws.{found_by_find}
use Rattle.chain.proofs.place_of.Goals as goal

pub returns : goal.returns
returns c =
    found_by_find (λ (place : ℕ). eqb (get_or c.args.columns.now place 0) c.args.j) _ _ _ _ c.find.ensures.ran c.requires.0
    (λ x q k. search (rules, tests)) (λ x q k. search (rules, tests))
