-- Bytes that tell their places, by evaluation of the definitions: rates of two and of four different bytes, maps of two bytes, the printed
-- example and docs/FORMAT.md's chain of nine states in each form. In both directions, so that reading and writing cannot change together.
-- Assumes nothing.
use mathlib.Core.Bool.{true, false}
use mathlib.Core.List.{List, [], ◌∷◌}
use mathlib.Core.Path.{◌≡◌, refl}
use Prim.Native.Nat.{ℕ, zero, suc, ◌+◌, ◌*◌}
use Rattle.chain.specs.Rows.{Rows, rows}
use Rattle.layout.specs.declared.Form.TheVariants.{One, Two}
use Rattle.layout.specs.Forms.{form_number, lead, form_in, order_in, short}
use Rattle.layout.specs.Bytes.{map_bytes, maps_of, bit_at, stored_columns, marked, short_rate, stored_rate, rates_at, form_of, chain_of}
use Rattle.layout.specs.File.{map_of, short_columns, bytes_of, rates_size, file_size, file_of, most_bytes, longest_file, enough_bytes}
use Rattle.layout.specs.Buffers.{most_starts, most_entries}

-- "four bytes each, low byte first": 1 + 256 × 2 + 65536 × 3 + 16777216 × 4
pub rate_bytes_lem : (stored_rate (1 ∷ 2 ∷ 3 ∷ 4 ∷ []) 0 ≡ 67305985) × (bytes_of One (67305985 ∷ []) ≡ 1 ∷ 2 ∷ 3 ∷ 4 ∷ [])
unfolding stored_rate
rate_bytes_lem = (refl, refl)

-- "two bytes if marked and four otherwise": 1 + 256 × 2, then 67305985
pub short_bytes : (short_rate (1 ∷ 2 ∷ []) 0 ≡ 513) × (bytes_of Two (513 ∷ 67305985 ∷ []) ≡ 1 ∷ 2 ∷ 1 ∷ 2 ∷ 3 ∷ 4 ∷ [])
    × (bytes_of One (513 ∷ []) ≡ 1 ∷ 2 ∷ 0 ∷ 0 ∷ [])
unfolding short_rate
short_bytes = (refl, refl, refl)

-- "A rate is marked if and only if it is below 65,536"; in form 1 none is
pub limit : (short Two 65535 ≡ true) × (short Two 65536 ≡ false) × (short One 3 ≡ false)
limit = (refl, refl, refl)

-- "bit j in byte j / 8, lowest bit first": columns 0, 7, 8 and 10 of a row of eleven states
pub two_map_bytes : (stored_columns (129 ∷ 5 ∷ []) 11 0 ≡ 0 ∷ 7 ∷ 8 ∷ 10 ∷ []) × (map_of (0 ∷ 7 ∷ 8 ∷ 10 ∷ []) 2 0 ≡ 129 ∷ 5 ∷ [])
unfolding bit_at
two_map_bytes = (refl, refl)

-- "a bit map of n / 8 bytes rounded up", "then a second such map"
pub map_sizes : (map_bytes 1 ≡ 1) × (map_bytes 8 ≡ 1) × (map_bytes 9 ≡ 2) × (map_bytes 64 ≡ 8) × (maps_of One 9 ≡ 2) × (maps_of Two 9 ≡ 4)
map_sizes = (refl, refl, refl, refl, refl, refl)

-- the first byte: 1 to 64 and 129 to 192 are orders 1 to 64, in form 1 and in form 2; 0, 65, 128 and 193 are no order up to 64
pub first_bytes : (form_in 64 ≡ One) × (order_in 64 ≡ 64) × (form_in 129 ≡ Two) × (order_in 129 ≡ 1) × (form_in 192 ≡ Two) × (order_in 192 ≡ 64)
    × (order_in 0 ≡ 0) × (order_in 65 ≡ 65) × (order_in 128 ≡ 128) × (order_in 193 ≡ 65)
unfolding form_in order_in
first_bytes = (refl, refl, refl, refl, refl, refl, refl, refl, refl, refl)

pub form_numbers : (form_number One ≡ 1) × (form_number Two ≡ 2) × (lead One ≡ 0) × (lead Two ≡ 128)
form_numbers = (refl, refl, refl, refl)

-- "at most 16,641" and "at most 17,153": the files of 64 states, each with an entry of rate 65,536 at every other; and one byte more
abbrev pub repeated : ℕ → ℕ → List ℕ
repeated zero rate = []
repeated (suc k) rate = rate ∷ repeated k rate

pub longest : (most_starts ≡ 64 + 1) × (most_entries ≡ 64 * 63) × (file_size One 64 (repeated most_entries 65536) ≡ most_bytes One)
    × (file_size Two 64 (repeated most_entries 65536) ≡ most_bytes Two) × (most_bytes One ≡ 16641) × (most_bytes Two ≡ longest_file) × (enough_bytes ≡ longest_file + 1)
longest = (refl, refl, refl, refl, refl, refl, refl)

-- ---- the printed example: "82 02 02 03 00 01 01 01 00" in form 2

abbrev pub two : Rows
two = rows 2 (0 ∷ 1 ∷ 2 ∷ []) (1 ∷ 0 ∷ []) (3 ∷ 1 ∷ [])

abbrev pub two_bytes : List ℕ
two_bytes = 2 ∷ 2 ∷ 3 ∷ 0 ∷ 0 ∷ 0 ∷ 1 ∷ 1 ∷ 0 ∷ 0 ∷ 0 ∷ []

abbrev pub two_short : List ℕ
two_short = 130 ∷ 2 ∷ 2 ∷ 3 ∷ 0 ∷ 1 ∷ 1 ∷ 1 ∷ 0 ∷ []

pub two_states : (file_of One two ≡ two_bytes) × (chain_of two_bytes ≡ two) × (file_of Two two ≡ two_short) × (chain_of two_short ≡ two)
    × (form_of two_bytes ≡ One) × (form_of two_short ≡ Two) × (file_size One 2 two.rates ≡ 11) × (file_size Two 2 two.rates ≡ 9)
unfolding form_in order_in bit_at short_rate stored_rate
two_states = (refl, refl, refl, refl, refl, refl, refl, refl)

-- 65,535 marked and 65,536 unmarked, in one file
abbrev pub at_limit : Rows
at_limit = rows 2 (0 ∷ 1 ∷ 2 ∷ []) (1 ∷ 0 ∷ []) (65535 ∷ 65536 ∷ [])

abbrev pub at_limit_bytes : List ℕ
at_limit_bytes = 130 ∷ 2 ∷ 2 ∷ 255 ∷ 255 ∷ 1 ∷ 0 ∷ 0 ∷ 0 ∷ 1 ∷ 0 ∷ []

pub at_limit_lem : (file_of Two at_limit ≡ at_limit_bytes) × (chain_of at_limit_bytes ≡ at_limit)
unfolding form_in order_in bit_at short_rate stored_rate
at_limit_lem = (refl, refl)

-- ---- nine states: a map has two bytes

-- docs/FORMAT.md's: a ring of rate 1,000, and a move of rate 256 from state 0 to state 8
abbrev pub nine : Rows
nine =
    rows 9 (0 ∷ 2 ∷ 3 ∷ 4 ∷ 5 ∷ 6 ∷ 7 ∷ 8 ∷ 9 ∷ 10 ∷ []) (1 ∷ 8 ∷ 2 ∷ 3 ∷ 4 ∷ 5 ∷ 6 ∷ 7 ∷ 8 ∷ 0 ∷ [])
    (1000 ∷ 256 ∷ 1000 ∷ 1000 ∷ 1000 ∷ 1000 ∷ 1000 ∷ 1000 ∷ 1000 ∷ 1000 ∷ [])

-- its 59 bytes, with b for the second byte of the rate 256: 1, or 0 in the old file
abbrev pub nine_bytes : ℕ → List ℕ
nine_bytes b =
    9
    ∷ 2 ∷ 1 ∷ 232 ∷ 3 ∷ 0 ∷ 0 ∷ 0 ∷ b ∷ 0 ∷ 0
    ∷ 4 ∷ 0 ∷ 232 ∷ 3 ∷ 0 ∷ 0
    ∷ 8 ∷ 0 ∷ 232 ∷ 3 ∷ 0 ∷ 0
    ∷ 16 ∷ 0 ∷ 232 ∷ 3 ∷ 0 ∷ 0
    ∷ 32 ∷ 0 ∷ 232 ∷ 3 ∷ 0 ∷ 0
    ∷ 64 ∷ 0 ∷ 232 ∷ 3 ∷ 0 ∷ 0
    ∷ 128 ∷ 0 ∷ 232 ∷ 3 ∷ 0 ∷ 0
    ∷ 0 ∷ 1 ∷ 232 ∷ 3 ∷ 0 ∷ 0
    ∷ 1 ∷ 0 ∷ 232 ∷ 3 ∷ 0 ∷ 0
    ∷ []

pub nine_states : (chain_of (nine_bytes 1) ≡ nine) × (file_of One nine ≡ nine_bytes 1) × (file_size One 9 nine.rates ≡ 59)
unfolding form_in order_in bit_at stored_rate
nine_states = (refl, refl, refl)

-- the ring with a move of rate 67,305,985 from state 0 to state 8, which is not short: 59 bytes in form 2 too
abbrev pub nine_long : Rows
nine_long = rows 9 nine.starts nine.columns (1000 ∷ 67305985 ∷ 1000 ∷ 1000 ∷ 1000 ∷ 1000 ∷ 1000 ∷ 1000 ∷ 1000 ∷ 1000 ∷ [])

-- in form 2, with m for the second byte of the marks of row 0: 0
abbrev pub nine_short : ℕ → List ℕ
nine_short m =
    137
    ∷ 2 ∷ 1 ∷ 2 ∷ m ∷ 232 ∷ 3 ∷ 1 ∷ 2 ∷ 3 ∷ 4
    ∷ 4 ∷ 0 ∷ 4 ∷ 0 ∷ 232 ∷ 3
    ∷ 8 ∷ 0 ∷ 8 ∷ 0 ∷ 232 ∷ 3
    ∷ 16 ∷ 0 ∷ 16 ∷ 0 ∷ 232 ∷ 3
    ∷ 32 ∷ 0 ∷ 32 ∷ 0 ∷ 232 ∷ 3
    ∷ 64 ∷ 0 ∷ 64 ∷ 0 ∷ 232 ∷ 3
    ∷ 128 ∷ 0 ∷ 128 ∷ 0 ∷ 232 ∷ 3
    ∷ 0 ∷ 1 ∷ 0 ∷ 1 ∷ 232 ∷ 3
    ∷ 1 ∷ 0 ∷ 1 ∷ 0 ∷ 232 ∷ 3
    ∷ []

pub nine_short_lem : (chain_of (nine_short 0) ≡ nine_long) × (file_of Two nine_long ≡ nine_short 0) × (file_size Two 9 nine_long.rates ≡ 59)
unfolding form_in order_in bit_at short_rate stored_rate
nine_short_lem = (refl, refl, refl)

-- row 0 alone: column 8 is unmarked, and the marks are by column, not by entry
pub marks_by_column : (marked Two (2 ∷ 1 ∷ 0 ∷ 1 ∷ []) 9 0 1 ≡ false) × (marked Two (2 ∷ 1 ∷ 0 ∷ 1 ∷ []) 9 0 8 ≡ true)
    × (marked One (2 ∷ 1 ∷ 0 ∷ 1 ∷ []) 9 0 8 ≡ false)
    × (short_columns (1 ∷ 8 ∷ []) (70000 ∷ 256 ∷ []) ≡ 8 ∷ [])
    × (rates_at (marked Two (2 ∷ 1 ∷ 0 ∷ 1 ∷ []) 9 0) (112 ∷ 17 ∷ 1 ∷ 0 ∷ 0 ∷ 1 ∷ []) (1 ∷ 8 ∷ []) 0 ≡ 70000 ∷ 256 ∷ [])
    × (rates_size Two (70000 ∷ 256 ∷ []) ≡ 6)
unfolding bit_at short_rate stored_rate
marks_by_column = (refl, refl, refl, refl, refl, refl)
