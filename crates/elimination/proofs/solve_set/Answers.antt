-- The weights, and the shares of them. Assumes nothing.
use borrow.Author.Rules.{rules}
use Rattle.kernel.proofs.Entries.{still_square}
use Rattle.elimination.proofs.Weighing.{sharable, set_solved, solved_end}
use Rattle.elimination.proofs.solve_set.Goals as goal

pub share-requires-clause-shares_fit : goal.share-requires-clause-shares_fit
share-requires-clause-shares_fit c = let w = c.weigh.ensures.holds in rw w.sized.size_m (sharable c.requires.weighable w)

pub returns : goal.returns
returns c =
    let p = c.requires in
    let w = c.weigh.ensures.holds in
    let shares = rw w.sized.size_m at c.share.ensures.holds in
    solved_end c.weigh.new.w c.share.new.s
    (set_solved p.weighable w (still_square p.square (record { same_m = search rules; same_e = search rules })) shares)
    (search rules) (search rules) (search rules) (search rules)
