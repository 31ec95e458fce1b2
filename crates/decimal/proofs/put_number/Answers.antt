-- The library's text of a number is its decimal text. Assumes nothing.
use mathlib.Core.Path.{◌≡◌, ap, ◌∙◌}
use native.Mathlib.Omega.{arith}
use lib.ListN.{length}
use Rattle.decimal.specs.Decimal.{decimal}
use Rattle.decimal.proofs.Writing.{library_text}
use Rattle.decimal.proofs.put_number.Goals as goal

pub put_text-requires : goal.put_text-requires
put_text-requires c =
    let text : c.as_bytes-text.result.now ≡ decimal c.args.x = c.as_bytes-text.ensures.value ∙ c.format.ensures.text ∙ library_text c.args.x c.ranges.x.fits in
    omega (arith, ap length text)

pub returns : goal.returns
returns c =
    let text : c.as_bytes-text.result.now ≡ decimal c.args.x = c.as_bytes-text.ensures.value ∙ c.format.ensures.text ∙ library_text c.args.x c.ranges.x.fits in
    rw (← text) c.put_text.ensures
