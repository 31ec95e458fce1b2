-- Exact arithmetic in units of 1 / one, with no number where a result is not a whole number of units. Definitions for the worked
-- cases; proofs/Exact.antt shows that they keep all promises. Assumes nothing.
use mathlib.Core.Bool.{cond}
use Prim.Native.Nat.{ℕ, zero, suc, ◌+◌, ◌*◌, ◌/◌}
use lib.Dec.{eqb}
use Rattle.markov.specs.Elimination.{Ops}

pub data Num : Type 0 where
  number : ℕ → Num
  none : Num

abbrev pub units : Num → ℕ
units (number x) = x
units none = 0

abbrev pub IsNumber : Num → Type 0
IsNumber (number x) = Unit {0}
IsNumber none = ⊥

-- p / q, where that is a whole number
unfoldable pub fraction : ℕ → ℕ → Num
fraction p zero = none
fraction p (suc q) = cond (eqb (p / suc q * suc q) p) (number (p / suc q)) none

abbrev pub plus : Num → Num → Num
plus none y = none
plus (number x) none = none
plus (number x) (number y) = number (x + y)

abbrev pub times : ℕ → Num → Num → Num
times one none y = none
times one (number x) none = none
times one (number x) (number y) = fraction (x * y) one

abbrev pub over : ℕ → Num → Num → Num
over one none y = none
over one (number x) none = none
over one (number x) (number y) = fraction (one * x) y

unfoldable pub exact : ℕ → Ops Num
exact one = record { nought = number 0; unit = number one; add = plus; mul = times one; div = over one }
