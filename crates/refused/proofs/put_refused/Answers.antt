-- The line of a refusal: a word, three numbers, and the end of the line. Assumes nothing.
use Rattle.refused.specs.Refused.{refused_line}
use Rattle.decimal.proofs.Writing.{then}
use Rattle.refused.proofs.put_refused.Goals as goal

pub returns : goal.returns
unfolding refused_line
returns c =
    then c.put_text-p.ensures
    (then c.put_field-p.ensures
    (then c.put_field-p-2.ensures
    (then c.put_field-p-3.ensures
    c.put_byte.ensures)))
