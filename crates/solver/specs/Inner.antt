-- What the part of `solve` before the elimination answers. No public promise needs this file.
use Rattle.std.specs.Prelude.{Bool, ◌≡◌, ℕ, ◌<◌, Result, Ok, Err}
use Rattle.refusal.specs.declared.Refusal.{Refusal}
use Rattle.refusal.specs.Table.{verdict}
use Rattle.markov.specs.Closed.{size}
use Rattle.chain.specs.Rows.{Rows}
use Rattle.reach.specs.Reach.{stands}
use Rattle.reach.specs.Answer.{set_of}
use Rattle.solver.specs.declared.Found.{Found}
use Rattle.solver.specs.Solve.{solved}

-- the bound count, or the refusal
abbrev pub bound_of : Result Found Refusal → Result ℕ Refusal
bound_of (Ok found) = Ok found.bound
bound_of (Err refusal) = Err refusal

-- the mask is that of the closed set, and so is its size
pub record IsFound (c : Rows) (found : Found) : Type 0 where
  pub members : (i : ℕ) → i < c.order → stands found.set i ≡ set_of c i
  pub size_is : found.size ≡ size c.order (stands found.set)

-- the verdict of solving, and the closed set of an accepted chain
pub record Admitted (c : Rows) (room : Bool) (r : Result Found Refusal) : Type 0 where
  pub answer : verdict (bound_of r) ≡ solved c room
  pub found : (f : Found) → r ≡ Ok f → IsFound c f
