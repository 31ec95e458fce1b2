-- The first line: a word and a number, twice, and the end of the line. Assumes nothing.
use Rattle.lines.specs.Lines.{header_line}
use Rattle.decimal.proofs.Writing.{then}
use Rattle.lines.proofs.put_header.Goals as goal

pub returns : goal.returns
unfolding header_line
returns c =
    then c.put_text-p.ensures (then c.put_field-p.ensures (then c.put_text-p-2.ensures (then c.put_field-p-2.ensures c.put_byte.ensures)))
