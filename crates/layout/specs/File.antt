-- Document 01, "Stored chains", and document 02, R-8: the file of a chain, in either form.
use Rattle.std.specs.Prelude.{ℕ, zero, suc, ◌+◌, ◌-◌, ◌*◌, ◌/◌, ◌%◌, Bool, true, false, cond, List, [], ◌∷◌, ◌++◌, eqb, take, drop}
use Rattle.chain.specs.Rows.{Rows}
use Rattle.layout.specs.declared.Form.{Form}
use Rattle.layout.specs.declared.Form.TheVariants.{One, Two}
use Rattle.layout.specs.Forms.{lead, short, width}
use Rattle.layout.specs.Bytes.{map_bytes, maps_of}

abbrev pub bit : Bool → ℕ
bit true = 1
bit false = 0

-- the number whose k lowest bits are the tests from i on, "lowest bit first"
abbrev pub bits_from : (ℕ → Bool) → ℕ → ℕ → ℕ
bits_from test zero i = 0
bits_from test (suc k) i = bit (test i) + 2 * bits_from test k (i + 1)

-- whether a row with these columns has an entry at column j
abbrev pub has : ℕ → List ℕ → Bool
has j [] = false
has j (column ∷ columns) = cond (eqb column j) true (has j columns)

-- byte k of a row's map, and k bytes of it from byte i on
abbrev pub map_byte : List ℕ → ℕ → ℕ
map_byte columns k = bits_from (λ j. has j columns) 8 (8 * k)

abbrev pub map_of : List ℕ → ℕ → ℕ → List ℕ
map_of columns zero i = []
map_of columns (suc k) i = map_byte columns i ∷ map_of columns k (i + 1)

-- the columns of a row whose rates are short
abbrev pub short_columns : List ℕ → List ℕ → List ℕ
short_columns [] rates = []
short_columns (column ∷ columns) [] = []
short_columns (column ∷ columns) (rate ∷ rates) = cond (short Two rate) (column ∷ short_columns columns rates) (short_columns columns rates)

-- "a second such map that marks the short rates by column"
abbrev pub marks_of : Form → ℕ → List ℕ → List ℕ → List ℕ
marks_of One n columns rates = []
marks_of Two n columns rates = map_of (short_columns columns rates) (map_bytes n) 0

-- "two bytes if marked and four otherwise", low byte first
abbrev pub rate_bytes : Bool → ℕ → List ℕ
rate_bytes true rate = rate % 256 ∷ rate / 256 % 256 ∷ []
rate_bytes false rate = rate % 256 ∷ rate / 256 % 256 ∷ rate / 256 / 256 % 256 ∷ rate / 256 / 256 / 256 ∷ []

abbrev pub bytes_of : Form → List ℕ → List ℕ
bytes_of form [] = []
bytes_of form (rate ∷ rates) = rate_bytes (short form rate) rate ++ bytes_of form rates

-- how many bytes rates take
abbrev pub rates_size : Form → List ℕ → ℕ
rates_size form [] = 0
rates_size form (rate ∷ rates) = width (short form rate) + rates_size form rates

-- one row, and the rows by their starts
abbrev pub row_bytes : Form → ℕ → List ℕ → List ℕ → List ℕ
row_bytes form n columns rates = map_of columns (map_bytes n) 0 ++ (marks_of form n columns rates ++ bytes_of form rates)

abbrev pub rows_bytes : Form → ℕ → List ℕ → List ℕ → List ℕ → List ℕ
rows_bytes form n [] columns rates = []
rows_bytes form n (a ∷ []) columns rates = []
rows_bytes form n (a ∷ b ∷ starts) columns rates =
    row_bytes form n (take (b - a) columns) (take (b - a) rates) ++ rows_bytes form n (b ∷ starts) (drop (b - a) columns) (drop (b - a) rates)

-- the file of a chain
abbrev pub file_of : Form → Rows → List ℕ
file_of form c = (lead form + c.order) ∷ rows_bytes form c.order c.starts c.columns c.rates

-- in form 1 "a file has 1 + n × (map bytes) + 4 × (entries) bytes"; form 2 by counts: `file_size_two`
abbrev pub file_size : Form → ℕ → List ℕ → ℕ
file_size form n rates = 1 + n * maps_of form n + rates_size form rates

-- 64 states, an entry from each of them to each other, no rate short: "at most 16,641" and "at most 17,153 bytes"
abbrev pub most_bytes : Form → ℕ
most_bytes One = 16641
most_bytes Two = 17153

-- the longer of the two, and "the programs read one more"
abbrev pub longest_file : ℕ
longest_file = 17153

abbrev pub enough_bytes : ℕ
enough_bytes = 17154
