use lib.Seq.{sets}
use mathlib.Core.Path.{◌≡◌}
use Prim.Native.Nat.{◌+◌, ◌-◌}
use Rattle.packing.specs.Inner.{picked}
use Rattle.layout.specs.File.{map_of}
use Rattle.packing.proofs.put.Row.put_map.Given as goal

-- what is still to be put, put on what stands now, gives the whole map
abbrev pub invariant-loop-k : goal.invariant-loop-k
invariant-loop-k l =
    let columns = picked l.short l.self.columns.now l.self.rates.now in
    sets l.initial.out l.m (map_of columns l.width 0) ≡ sets l.out (l.m + l.k) (map_of columns (l.width - l.k) l.k)
