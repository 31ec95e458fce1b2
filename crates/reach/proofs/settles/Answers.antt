use mathlib.Core.Bool.{not, ◌||◌}
use mathlib.Core.Path.{refl}
use borrow.Author.Rules.{rules}
use borrow.Author.Tests.{tests}
use Rattle.basics.proofs.FoundLaws.{all_by_all}
use Rattle.reach.specs.Reach.{bits}
use Rattle.reach.specs.ClosedSets.{settles}
use Rattle.reach.proofs.settles.Goals as goal

pub returns : goal.returns
unfolding settles
returns c =
    all_by_all (λ j. not (bits c.args.rows.now c.args.i j) || bits c.args.rows.now j c.args.i) c.args.n _ _ _ c.all.ensures.ran refl
    (λ x q k. search (rules, tests)) (λ x q k. search (rules, tests))
