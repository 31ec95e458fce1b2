use mathlib.Core.Bool.{true, false}
use mathlib.Core.Path.{◌≡◌}
use lib.Dec.{eqb}
use borrow.Author.Rules.{rules}
use borrow.Author.Tests.{tests}
use Rattle.std.proofs.lemmas.Iterator.{IsFirst-from_position, YieldsList-from_slice}
use Rattle.basics.proofs.FoundLaws.{found_in_list}
use Rattle.chain.proofs.first_zero.Goals as goal

pub returns : goal.returns
returns c =
    found_in_list (λ y. eqb y 0) c.args.rates.now _
    (IsFirst-from_position _ _ _ (λ y. eqb y 0 ≡ true) (λ y. eqb y 0 ≡ false) c.position.ensures.ran (YieldsList-from_slice c.args.rates.now (search rules))
    (λ x q k. search (rules, tests)) (λ x q k. search (rules, tests)))
