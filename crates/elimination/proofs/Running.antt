-- What `run` lends to the set's own chain, and what it makes of the results. Assumes nothing.
use mathlib.Core.Bool.{Bool}
use mathlib.Core.Path.{◌≡◌, ◌∙◌}
use Prim.Native.Nat.{ℕ, ◌-◌, ◌*◌, ◌≤◌}
use native.Mathlib.Nat.{mul-le-mul}
use native.Mathlib.Omega.{arith}
use lib.ListN.{length}
use lib.Seq.{length-take-le}
use Rattle.markov.specs.Elimination.{weights, shares}
use Rattle.markov.specs.Closed.{size, spread, set_weights, set_shares}
use Rattle.markov.proofs.Members.{size_le}
use Rattle.scaled.specs.declared.Scaled.{Scaled}
use Rattle.scaled.specs.Scaled.{zero_number}
use Rattle.chain.specs.Sound.{Sound}
use Rattle.chain.specs.Rows.{Rows}
use Rattle.kernel.specs.Numbers.{ops}
use Rattle.kernel.specs.Slices.{Slices, number_at}
use Rattle.kernel.specs.Kernel.{Square, Sized, Holds}
use Rattle.kernel.proofs.Cells.{square}
use Rattle.elimination.specs.Inner.{matrix_of, set_matrix, Weighable}
use Rattle.elimination.proofs.Cut.{cut, joined, joined_sized, joined_at}
use Rattle.elimination.proofs.Weighing.{spread_holds}

-- the set's own places are among those of the whole chain
pub record Within (n r : ℕ) (work weights shares : Slices) : Type 0 where
  pub few : r ≤ n
  pub order : n ≤ 64
  pub squared : r * r ≤ n * n
  pub most : n * n ≤ 4096
  pub work_m : r * r ≤ length work.m
  pub work_e : r * r ≤ length work.e
  pub weights_m : r ≤ length weights.m
  pub weights_e : r ≤ length weights.e
  pub shares_m : r ≤ length shares.m
  pub shares_e : r ≤ length shares.e

pub within : {c : Rows} {set : ℕ → Bool} {r : ℕ} {work weights shares : Slices} → Sound c → Weighable c set r → Square c.order work → Sized c.order weights
    → Sized c.order shares → Within c.order r work weights shares
within {c} {set} {r} sound h q w s =
    let few : r ≤ c.order = omega (arith, h.size_is, size_le c.order set) in
    let squared : r * r ≤ c.order * c.order = mul-le-mul few few in
    record {
      few = few;
      order = sound.order.high;
      squared = squared;
      most = square c.order sound.order.high;
      work_m = omega (arith, squared, q.size_m);
      work_e = omega (arith, squared, q.size_e);
      weights_m = omega (arith, few, w.size_m);
      weights_e = omega (arith, few, w.size_e);
      shares_m = omega (arith, few, s.size_m);
      shares_e = omega (arith, few, s.size_e);
    }

pub cut_sized : (k : ℕ) (s : Slices) → k ≤ length s.m → k ≤ length s.e → Sized k (cut k s)
cut_sized k s l g = record { size_m = length-take-le _ _ l; size_e = length-take-le _ _ g }

pub cut_square : {n r : ℕ} {work weights shares : Slices} → Within n r work weights shares → Square r (cut (r * r) work)
cut_square f = record { order = omega arith; size_m = length-take-le _ _ f.work_m; size_e = length-take-le _ _ f.work_e }

square_sized : {n : ℕ} {s : Slices} → Square n s → Sized (n * n) s
square_sized q = record { size_m = q.size_m; size_e = q.size_e }

-- the work places, once those of the set have come back
pub work_sized : {n r : ℕ} {s old : Slices} → r * r ≤ n * n → Square r s → Square n old → Sized (n * n) (joined (r * r) s old)
work_sized l p q = joined_sized l (square_sized p) (square_sized q)

-- the weights and the shares of the set, given to the states of the chain, where as many places were lent as the chain has states
module _ (c : Rows) (set : ℕ → Bool) {r : ℕ} (e : r ≡ size c.order set) {s : Slices} (old : Slices) {k : ℕ} {t : Slices} (whole : k ≡ c.order) where
  given : {f : ℕ → Scaled} → Holds r f s → Holds k (spread set zero_number (number_at (joined r s old))) t → Holds c.order (spread set zero_number f) t
  given h g = spread_holds c.order r set (joined r s old) e (λ p l. joined_at old h.sized p l ∙ h.at p l) (rw whole at g)

  pub weights_given : Holds r (weights ops (r - 1) (set_matrix c set)) s → Holds k (spread set zero_number (number_at (joined r s old))) t
      → Holds c.order (set_weights ops c.order set (matrix_of c)) t
  unfolding set_weights
  weights_given h g = rw e at (given h g)

  pub shares_given : Holds r (shares ops (r - 1) (set_matrix c set)) s → Holds k (spread set zero_number (number_at (joined r s old))) t
      → Holds c.order (set_shares ops c.order set (matrix_of c)) t
  unfolding set_shares
  shares_given h g = rw e at (given h g)
