use mathlib.Core.Path.{◌≡◌, sym, ◌∙◌}
use native.Mathlib.Omega.{arith}
use borrow.Author.Rules.{rules}
use borrow.Author.Tests.{tests}
use Rattle.std.specs.Prelude.{Some}
use Rattle.std.proofs.lemmas.Option.{same_Some}
use Rattle.basics.proofs.FoundLaws.{found_by_find, found_yes}
use Rattle.chain.specs.Rows.{rows_of}
use Rattle.chain.specs.Rules.{ends_after, row_of}
use Rattle.chain.proofs.ZeroLaws.{row_below}
use Rattle.chain.proofs.SoundChain.row_of.Goals as goal

-- the search finds the row
place_found : (c : goal.After-find) → c.find.result ≡ Some (row_of c.args.self.chain.order c.args.self.chain.starts.now c.args.place)
place_found c =
    found_by_find (ends_after c.args.self.chain.starts.now c.args.place) _ _ _ _ c.find.ensures.ran (omega arith)
    (λ x q k. search (rules, tests)) (λ x q k. search (rules, tests))
    ∙ found_yes _ _ _ (row_below (rows_of c.args.self.chain) c.args.self.sound c.args.place (omega (arith, c.requires, c.args.self.sound.lengths)))

pub unwrap-requires : goal.unwrap-requires
unwrap-requires c = rw (place_found c)

pub returns : goal.returns
returns c = same_Some _ _ (sym c.unwrap.ensures ∙ place_found c.before)
