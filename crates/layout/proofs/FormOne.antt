-- Form 1 is document 01's: the order alone in the first byte, one map, four bytes for each rate. Assumes nothing.
use Prim.Native.Nat.{ℕ, ◌+◌, ◌*◌, ◌/◌, ◌%◌}
use mathlib.Core.Bool.{false}
use mathlib.Core.List.{List, [], ◌∷◌, ◌++◌}
use mathlib.Core.Path.{◌≡◌, refl, ap}
use native.Mathlib.Omega.{arith}
use lib.ListN.{length}
use Rattle.chain.specs.Rows.{Rows}
use Rattle.layout.specs.declared.Form.TheVariants.{One}
use Rattle.layout.specs.Bytes.{map_bytes, stored_count, stored_columns, widths, row_end}
use Rattle.layout.specs.File.{map_of, bytes_of, rates_size, row_bytes, rows_bytes, file_of, file_size}

-- "four bytes each, low byte first"
pub bytes_one : (rate : ℕ) (rates : List ℕ)
    → bytes_of One (rate ∷ rates) ≡ rate % 256 ∷ rate / 256 % 256 ∷ rate / 256 / 256 % 256 ∷ rate / 256 / 256 / 256 ∷ bytes_of One rates
bytes_one rate rates = refl

pub row_one : (n : ℕ) (columns rates : List ℕ) → row_bytes One n columns rates ≡ map_of columns (map_bytes n) 0 ++ bytes_of One rates
row_one n columns rates = refl

-- "One byte n"
pub file_one : (c : Rows) → file_of One c ≡ c.order ∷ rows_bytes One c.order c.starts c.columns c.rates
file_one c = ap (λ (x : ℕ). x ∷ rows_bytes One c.order c.starts c.columns c.rates) (omega arith)

-- "a file has 1 + n × (map bytes) + 4 × (entries) bytes"
size_one : (rates : List ℕ) → rates_size One rates ≡ 4 * length rates
size_one [] = refl
size_one (rate ∷ rates) = omega (arith, size_one rates)

pub file_size_one : (n : ℕ) (rates : List ℕ) → file_size One n rates ≡ 1 + n * map_bytes n + 4 * length rates
file_size_one n rates = omega (arith, size_one rates)

-- a row, read
widths_one : (columns : List ℕ) → widths (λ _. false) columns ≡ 4 * length columns
widths_one [] = refl
widths_one (column ∷ columns) = omega (arith, widths_one columns)

pub row_end_one : (bytes : List ℕ) (n map : ℕ) → row_end One bytes n map ≡ map + map_bytes n + 4 * stored_count bytes n map
row_end_one bytes n map = omega (arith, widths_one (stored_columns bytes n map))
