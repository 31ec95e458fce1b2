-- Eight bits from the highest down.
use Prim.Native.Nat.{◌*◌, ◌+◌, ◌-◌}
use mathlib.Core.Path.{ap, ◌∙◌}
use native.Mathlib.Omega.{arith}
use Rattle.layout.specs.File.{bit}
use Rattle.packing.proofs.MapLaws.{bool_bit, has_any, upper_more}
use Rattle.packing.proofs.put.Row.map_byte.Goals as goal

pub loop-i-preserved : goal.loop-i-preserved
loop-i-preserved c =
    let s = c.args.self in
    upper_more _ _ _ _ c.loop-i.invariant c.loop-i-test.true (omega arith) _
    (c.from.ensures ∙ bool_bit _ ∙ ap bit (c.has.ensures ∙ has_any c.args.short (8 * c.args.k + (c.loop-i.i - 1)) s.columns.now s.rates.now s.paired))
