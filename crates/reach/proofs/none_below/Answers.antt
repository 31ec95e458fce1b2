use mathlib.Core.Bool.{not}
use mathlib.Core.Path.{refl}
use borrow.Author.Rules.{rules}
use borrow.Author.Tests.{tests}
use Rattle.basics.proofs.FoundLaws.{all_by_all}
use Rattle.reach.specs.Reach.{stands}
use Rattle.reach.proofs.none_below.Goals as goal

pub returns : goal.returns
returns c =
    all_by_all (λ j. not (stands c.args.row j)) c.args.i _ _ _ c.all.ensures.ran refl
    (λ x q k. search (rules, tests)) (λ x q k. search (rules, tests))
