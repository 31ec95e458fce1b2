-- The sign where the number is negative, then its magnitude. Assumes nothing.
use Rattle.std.proofs.Common.{ap, length, ◌∙◌, arith}
use Rattle.decimal.proofs.Writing.{then, signed_minus, signed_plain}
use Rattle.decimal.proofs.put_signed.Goals as goal

pub put_byte-first-requires : goal.put_byte-first-requires
put_byte-first-requires c =
    let text = signed_minus c.ranges.e (c.from-size.ensures ∙ c.unsigned_abs.ensures.value) c.if-e-lt0.true in
    omega (arith, ap length text)

pub put_number-requires : goal.put_number-requires
put_number-requires c =
    let text = signed_minus c.ranges.e (c.from-size.ensures ∙ c.unsigned_abs.ensures.value) c.if-e-lt0.true in
    omega (arith, ap length text)

pub returns-then-e-lt0 : goal.returns-then-e-lt0
returns-then-e-lt0 c =
    rw (signed_minus c.ranges.e (c.from-size.ensures ∙ c.unsigned_abs.ensures.value) c.if-e-lt0.true) (then c.put_byte-first.ensures c.put_number.ensures)

pub put_number-requires-2 : goal.put_number-requires-2
put_number-requires-2 c =
    let text = signed_plain c.ranges.e (c.from-size.ensures ∙ c.unsigned_abs.ensures.value) c.if-e-lt0.false in
    omega (arith, ap length text)

pub returns : goal.returns
returns c = rw (signed_plain c.ranges.e (c.from-size.ensures ∙ c.unsigned_abs.ensures.value) c.if-e-lt0.false) c.put_number-2.ensures
