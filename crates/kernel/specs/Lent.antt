-- What is lent to a call, and that it is the same memory afterwards.
use Rattle.std.specs.Prelude.{◌≡◌, ℕ}
use Rattle.scaled.specs.declared.Scaled.{Scaled}
use Rattle.kernel.specs.declared.Numbers.{Numbers}
use Rattle.kernel.specs.declared.Matrix.{Matrix}
use Rattle.kernel.specs.Slices.{Slices, pair, entry_at}

-- what stands in lent memory
abbrev pub held : Numbers → Slices
held x = pair x.m.now x.e.now

-- the same memory is lent as before, and what stands in it has changed as P says
pub record Stored (P : Slices → Slices → Type 0) (x x' : Numbers) : Type 0 where
  pub lent_m : x'.m.ghost_name ≡ x.m.ghost_name
  pub lent_e : x'.e.ghost_name ≡ x.e.ghost_name
  pub holds : P (held x) (held x')

-- the entries of a lent matrix, row by row
abbrev pub cells : Matrix → Slices
cells x = pair x.m.now x.e.now

abbrev pub entry_of : Matrix → ℕ → ℕ → Scaled
entry_of x = entry_at x.order (cells x)

-- the same matrix is lent as before, and its entries have changed as P says
pub record Rewritten (P : Slices → Slices → Type 0) (x x' : Matrix) : Type 0 where
  pub same_order : x'.order ≡ x.order
  pub lent_m : x'.m.ghost_name ≡ x.m.ghost_name
  pub lent_e : x'.e.ghost_name ≡ x.e.ghost_name
  pub holds : P (cells x) (cells x')
