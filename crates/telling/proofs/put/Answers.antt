-- `put` writes the places where there is room, and nothing otherwise. Assumes nothing.
use mathlib.Core.Path.{◌≡◌}
use native.Mathlib.Omega.{arith}
use lib.ListN.{length}
use borrow.Author.Rules.{rules}
use Rattle.telling.proofs.Answers.{front_put, none_put}
use Rattle.telling.proofs.put.Goals as goal

pub returns-then-answer : goal.returns-then-answer
returns-then-answer g c =
    let long : length c.args.places ≡ g.row.N = search rules in
    rw c.copy_from_slice.ensures.after (front_put _ _ _ long c.if-answer.true)

pub returns-else-answer : goal.returns-else-answer
returns-else-answer g c =
    let long : length c.args.places ≡ g.row.N = search rules in
    none_put _ _ (omega (arith, long, c.if-answer.false))
