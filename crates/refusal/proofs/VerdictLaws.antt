-- What an accepted verdict says of the tests that it accepted-if. Assumes nothing.
use Prim.Native.Nat.{ℕ}
use mathlib.Core.Bool.{Bool, true, false, cond}
use mathlib.Core.Path.{◌≡◌, refl}
use native.Mathlib.Omega.{arith}
use Rattle.refusal.specs.Table.{Verdict, accepts, refuses, Side, and_then}
use Rattle.refusal.specs.declared.Line.{Line}

module _ {A : Type 0} where
  pub accepted_if : (b : Bool) (x : Verdict A) (s : Side) (l : Line) (k : A) → cond b x (refuses s l) ≡ accepts k → (b ≡ true) × (x ≡ accepts k)
  accepted_if true x s l k e = (refl, e)
  accepted_if false x s l k e = absurd (let z : ◌≡◌ {A = ℕ} 0 1 = cc in omega arith)

  pub accepted_unless : (b : Bool) (x : Verdict A) (s : Side) (l : Line) (k : A) → cond b (refuses s l) x ≡ accepts k → (b ≡ false) × (x ≡ accepts k)
  accepted_unless true x s l k e = absurd (let z : ◌≡◌ {A = ℕ} 0 1 = cc in omega arith)
  accepted_unless false x s l k e = (refl, e)

  pub accepted_then : {B : Type 0} (v : Verdict A) (next : A → Verdict B) (k : B) → and_then v next ≡ accepts k → (a : A) × (v ≡ accepts a) × (next a ≡ accepts k)
  accepted_then (accepts a) next k e = (a, refl, e)
  accepted_then (refuses s l) next k e = absurd (let z : ◌≡◌ {A = ℕ} 0 1 = cc in omega arith)
