-- All four bytes; that the first two are put where the rate is short, the check finds.
use Prim.Native.Nat.{◌+◌, ◌-◌}
use mathlib.Core.Bool.{false}
use mathlib.Core.Path.{◌≡◌, refl, ◌∙◌}
use native.Mathlib.Omega.{arith}
use Rattle.layout.specs.Forms.{width}
use Rattle.layout.specs.File.{rate_bytes}
use Rattle.packing.proofs.MapLaws.{length_rate, first_bytes, part_put}
use Rattle.packing.proofs.put.put_rate.Goals as goal

pub returns-else-short : goal.returns-else-short
returns-else-short c =
    let a = c.args in
    let four : width a.short ≡ 4 = rw c.if-short.false refl in
    let bytes : c.copy_from_slice-else-short.new.self ≡ rate_bytes a.short a.rate =
    c.copy_from_slice-else-short.ensures.after ∙ rw (c.if-short.false, c.to_le_bytes-bytes.ensures) (first_bytes false a.rate c.ranges.rate.fits) in
    let k : a.a + 4 - a.a ≡ width a.short = omega (arith, four) in
    (rw (k, bytes) (part_put a.a (width a.short) a.out.now (rate_bytes a.short a.rate) (length_rate a.short a.rate) c.requires), omega (arith, four))
