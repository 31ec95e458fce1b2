use Rattle.packing.specs.Inner.{picked}
use Rattle.packing.proofs.MapLaws.{Upper}
use Rattle.packing.proofs.put.Row.map_byte.Given as goal

abbrev pub invariant-loop-i : goal.invariant-loop-i
invariant-loop-i l = Upper (picked l.short l.self.columns.now l.self.rates.now) l.k l.i l.byte
