-- The rates of a row's columns, each two or four bytes long: how many they are and how many bytes they take. Assumes nothing.
use Prim.Native.Nat.{ℕ, suc, ◌+◌, ◌*◌, ◌≤◌}
use mathlib.Core.Bool.{Bool, true, false}
use mathlib.Core.List.{List, [], ◌∷◌, ◌++◌}
use mathlib.Core.Path.{◌≡◌, refl, ap}
use native.Mathlib.Omega.{arith}
use lib.ListN.{length, take, drop, take-append-drop}
use Rattle.layout.specs.declared.Form.{Form}
use Rattle.layout.specs.declared.Form.TheVariants.{One, Two}
use Rattle.layout.specs.Forms.{short, width}
use Rattle.layout.specs.Bytes.{map_bytes, maps_of, widths, rates_at}
use Rattle.layout.specs.File.{rates_size}

pub width_low : (b : Bool) → 2 ≤ width b
width_low true = omega arith
width_low false = omega arith

pub width_high : (b : Bool) → width b ≤ 4
width_high true = omega arith
width_high false = omega arith

pub maps_low : (form : Form) (n : ℕ) → map_bytes n ≤ maps_of form n
maps_low One n = omega arith
maps_low Two n = omega arith

pub maps_high : (form : Form) (n : ℕ) → maps_of form n ≤ 2 * map_bytes n
maps_high One n = omega arith
maps_high Two n = omega arith

module _ (marks : ℕ → Bool) where
  pub length_rates_at : (bytes columns : List ℕ) (place : ℕ) → length (rates_at marks bytes columns place) ≡ length columns
  length_rates_at bytes [] place = refl
  length_rates_at bytes (column ∷ columns) place = ap suc (length_rates_at bytes columns (place + width (marks column)))

  pub widths_high : (columns : List ℕ) → widths marks columns ≤ 4 * length columns
  widths_high [] = omega arith
  widths_high (column ∷ columns) = omega (arith, width_high (marks column), widths_high columns)

  -- each rate takes a byte at least
  pub widths_low : (columns : List ℕ) → length columns ≤ widths marks columns
  widths_low [] = omega arith
  widths_low (column ∷ columns) = omega (arith, width_low (marks column), widths_low columns)

-- rates marked as they are to be: each mark is whether its rate is short
pub data MarkedBy (form : Form) (marks : ℕ → Bool) : List ℕ → List ℕ → Type 0 where
  none : MarkedBy form marks [] []
  more : {column rate : ℕ} {columns rates : List ℕ} → marks column ≡ short form rate → MarkedBy form marks columns rates
      → MarkedBy form marks (column ∷ columns) (rate ∷ rates)

pub marked_size : {form : Form} {marks : ℕ → Bool} {columns rates : List ℕ} → MarkedBy form marks columns rates → widths marks columns ≡ rates_size form rates
marked_size none = refl
marked_size (more e m) = rw (e, marked_size m)

module _ (form : Form) where
  pub size_append : (a b : List ℕ) → rates_size form (a ++ b) ≡ rates_size form a + rates_size form b
  size_append [] b = omega arith
  size_append (x ∷ a) b = omega (arith, size_append a b)

  pub size_parts : (k : ℕ) (l : List ℕ) → rates_size form (take k l) + rates_size form (drop k l) ≡ rates_size form l
  size_parts k l = omega (arith, size_append (take k l) (drop k l), ap (rates_size form) (take-append-drop k l))

  pub size_high : (l : List ℕ) → rates_size form l ≤ 4 * length l
  size_high [] = omega arith
  size_high (x ∷ l) = omega (arith, width_high (short form x), size_high l)
