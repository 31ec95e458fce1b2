-- Document 02, R-1: "report each group's share, summed from its lowest state up"; "An empty group gets Zero."
use Rattle.std.specs.Prelude.{ℕ, Bool, List, eqb}
use Rattle.range.specs.Range.{picked}
use Rattle.scaled.specs.declared.Scaled.{Scaled}
use Rattle.kernel.specs.Numbers.{ops}
use Rattle.group_table.specs.Rules.{group_of}

-- "sixteen m and sixteen e places": the groups 0 to 15
abbrev pub group_places : ℕ
group_places = 16

-- whether a state is of group g
abbrev pub in_group : List ℕ → ℕ → ℕ → Bool
in_group table g state = eqb (group_of table state) g

-- the sum, from Zero with the state rising, of those of the n shares whose states are of group g
abbrev pub group_share : List ℕ → ℕ → (ℕ → Scaled) → ℕ → Scaled
group_share table n share g = picked ops (in_group table g) share n
