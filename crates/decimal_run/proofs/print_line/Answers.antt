-- A line has at most 33 bytes.
use Rattle.std.proofs.Common.{rules, arith, ◌≤◌, length, sym, ℤ, w32, to_z, of_z}
use mir.Val.{SFits}
use lib.Seq.{length-take-le}
use Rattle.decimal.specs.Decimal.{signed}
use Rattle.decimal.proofs.DecimalLaws.{decimal_64, signed_32}
use Rattle.decimal.proofs.Writing.{held_length}
use Rattle.decimal_run.proofs.print_line.Goals as goal

signed_held : {e : ℤ} → SFits w32 e → length (signed (to_z w32 (of_z w32 e))) ≤ 11
signed_held {e} f = omega (arith, signed_32 e f.sfits, held_length f)

pub put_number-p-requires : goal.put_number-p-requires
put_number-p-requires c = omega (arith, decimal_64 c.args.x c.ranges.x.fits)

pub put_byte-p-requires : goal.put_byte-p-requires
put_byte-p-requires c = search (rules, decimal_64 c.args.x c.ranges.x.fits)

pub put_signed-p-requires : goal.put_signed-p-requires
put_signed-p-requires c = search (rules, decimal_64 c.args.x c.ranges.x.fits, signed_held c.ranges.e)

pub put_byte-p-requires-2 : goal.put_byte-p-requires-2
put_byte-p-requires-2 c = search (rules, decimal_64 c.args.x c.ranges.x.fits, signed_held c.ranges.e)

pub slice_bounds-line-end : goal.slice_bounds-line-end
slice_bounds-line-end c = search (rules, decimal_64 c.args.x c.ranges.x.fits, signed_held c.ranges.e)

pub slice_bounds-write_all-end : goal.slice_bounds-write_all-end
slice_bounds-write_all-end c = sym (length-take-le _ _ (search (rules, decimal_64 c.args.x c.ranges.x.fits, signed_held c.ranges.e)))
