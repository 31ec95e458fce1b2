-- Numbers in lent memory: a slice of their m and a slice of their e.
use Rattle.std.specs.Prelude.{List, ℕ, ◌+◌, ◌*◌, ℤ, pos, get_or}
use Rattle.scaled.specs.declared.Scaled.{Scaled}

pub record Slices : Type 0 where
  pub m : List ℕ
  pub e : List ℤ

abbrev pub pair : List ℕ → List ℤ → Slices
pair m e = record { m = m; e = e }

-- the number at a place
unfoldable pub number_at : Slices → ℕ → Scaled
number_at s place = record { m = get_or s.m place 0; e = get_or s.e place (pos 0) }

-- entry (i, j) of a matrix of n columns that stands row by row
unfoldable pub entry_at : ℕ → Slices → ℕ → ℕ → Scaled
entry_at n s i j = number_at s (i * n + j)
