-- One call of `map_byte` for each byte of the map.
use mathlib.Core.Path.{◌∙◌}
use Rattle.packing.proofs.MapLaws.{map_more}
use Rattle.packing.proofs.put.Row.put_map.Goals as goal

pub loop-k-preserved : goal.loop-k-preserved
loop-k-preserved c = c.loop-k.invariant ∙ map_more _ _ _ _ _ c.loop-k-test.true _ c.map_byte.ensures
