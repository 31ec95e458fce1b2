-- m and e, each after a blank. Assumes nothing.
use Rattle.decimal.proofs.Writing.{then}
use mir.Syntax.{w32}
use mir.Val.{SFits}
use Rattle.std.proofs.lemmas.Int.{to_z-of_z}
use borrow.Author.Rules.{rules}
use Rattle.lines.proofs.put_scaled.Goals as goal

pub returns : goal.returns
returns c =
    let f : SFits w32 c.args.x.e = search rules in
    simp to_z-of_z at (then c.put_field-p.ensures (then c.put_byte-p.ensures c.put_signed.ensures))
