-- The examples of the table for refusals 8, 9 and 10, 14 of a file with its neighbours, and docs/FORMAT.md's nine states, by evaluation of
-- the definitions; all of it in form 1. Assumes nothing.
use mathlib.Core.Bool.{false}
use mathlib.Core.List.{[], ◌∷◌}
use mathlib.Core.Path.{◌≡◌, refl}
use Rattle.refusal.specs.Table.{accepts}
use Rattle.layout.specs.declared.Form.TheVariants.{One}
use Rattle.layout.specs.Forms.{form_in, order_in}
use Rattle.layout.specs.Bytes.{bit_at, stored_rate}
use Rattle.layout.proofs.Cases.{nine_bytes}
use Rattle.file_rules.specs.Sound.{zeros_taken, zeros_refused}
use Rattle.file_rules.specs.Verdict.{bytes_refused, marks_checked, mark_checked, rate_checked, row_checked, file_checked, room_to_read, read_verdict}

-- ---- 8: "empty file", and the cut_off input "02 02 03"

pub empty : file_checked zeros_refused [] ≡ bytes_refused 8 0 0
unfolding file_checked
empty = refl

pub cut_off : file_checked zeros_refused (2 ∷ 2 ∷ 3 ∷ []) ≡ bytes_refused 8 0 0
unfolding file_checked row_checked rate_checked marks_checked mark_checked form_in order_in bit_at stored_rate
cut_off = refl

-- ---- 9: "bytes 01 01 (hexadecimal): (0, 0)"

pub own_bit : file_checked zeros_refused (1 ∷ 1 ∷ []) ≡ bytes_refused 9 0 0
unfolding file_checked row_checked rate_checked marks_checked mark_checked form_in order_in bit_at stored_rate
own_bit = refl

-- and with two different places: a bit at n in the second row
pub later_bit : file_checked zeros_refused (2 ∷ 2 ∷ 3 ∷ 0 ∷ 0 ∷ 0 ∷ 4 ∷ []) ≡ bytes_refused 9 1 2
unfolding file_checked row_checked rate_checked marks_checked mark_checked form_in order_in bit_at stored_rate
later_bit = refl

-- ---- 10: "bytes 01 00 00", before 5

pub left_over : read_verdict zeros_refused (1 ∷ 0 ∷ 0 ∷ []) 0 0 0 ≡ bytes_refused 10 0 0
unfolding read_verdict file_checked row_checked rate_checked marks_checked mark_checked form_in order_in bit_at stored_rate room_to_read
left_over = refl

-- ---- 14: a rate by itself, whose column is named and not its place

pub rate_0 : rate_checked zeros_refused One (7 ∷ 0 ∷ 0 ∷ 0 ∷ 0 ∷ []) 2 5 false 1 ≡ bytes_refused 14 2 5
unfolding rate_checked mark_checked stored_rate
rate_0 = refl

pub rate_0_taken : rate_checked zeros_taken One (7 ∷ 0 ∷ 0 ∷ 0 ∷ 0 ∷ []) 2 5 false 1 ≡ accepts 5
unfolding rate_checked mark_checked stored_rate
rate_0_taken = refl

-- three bytes of 0 are no rate
pub three_zeros : rate_checked zeros_refused One (7 ∷ 0 ∷ 0 ∷ 0 ∷ []) 2 5 false 1 ≡ bytes_refused 8 0 0
unfolding rate_checked mark_checked stored_rate
three_zeros = refl

-- all four bytes count: "00 01 00 00" is 256
pub rate_256 : rate_checked zeros_refused One (0 ∷ 1 ∷ 0 ∷ 0 ∷ []) 2 5 false 0 ≡ accepts 4
unfolding rate_checked mark_checked stored_rate
rate_256 = refl

pub rate_65536 : rate_checked zeros_refused One (0 ∷ 0 ∷ 1 ∷ 0 ∷ []) 2 5 false 0 ≡ accepts 4
unfolding rate_checked mark_checked stored_rate
rate_65536 = refl

pub rate_16777216 : rate_checked zeros_refused One (0 ∷ 0 ∷ 0 ∷ 1 ∷ []) 2 5 false 0 ≡ accepts 4
unfolding rate_checked mark_checked stored_rate
rate_16777216 = refl

-- ---- 14 in a row

-- the second rate of row 1 of four states, that to column 3
pub second_rate : row_checked zeros_refused One (12 ∷ 1 ∷ 0 ∷ 0 ∷ 0 ∷ 0 ∷ 0 ∷ 0 ∷ 0 ∷ []) 4 1 0 ≡ bytes_refused 14 1 3
unfolding row_checked rate_checked marks_checked mark_checked bit_at stored_rate
second_rate = refl

-- before the rate after it is cut short
pub zero_then_cut : row_checked zeros_refused One (12 ∷ 0 ∷ 0 ∷ 0 ∷ 0 ∷ 1 ∷ []) 4 1 0 ≡ bytes_refused 14 1 2
unfolding row_checked rate_checked marks_checked mark_checked bit_at stored_rate
zero_then_cut = refl

-- after a bad bit of its own row
pub bit_then_zero : row_checked zeros_refused One (20 ∷ 0 ∷ 0 ∷ 0 ∷ 0 ∷ 0 ∷ 0 ∷ 0 ∷ 0 ∷ []) 4 1 0 ≡ bytes_refused 9 1 4
unfolding row_checked rate_checked marks_checked mark_checked bit_at stored_rate
bit_then_zero = refl

-- ---- 14 in a file

-- in a later row, and in none where rates of 0 are taken
pub second_row : file_checked zeros_refused (2 ∷ 2 ∷ 0 ∷ 1 ∷ 0 ∷ 0 ∷ 1 ∷ 0 ∷ 0 ∷ 0 ∷ 0 ∷ []) ≡ bytes_refused 14 1 0
unfolding file_checked row_checked rate_checked marks_checked mark_checked form_in order_in bit_at stored_rate
second_row = refl

pub second_row_taken : file_checked zeros_taken (2 ∷ 2 ∷ 0 ∷ 1 ∷ 0 ∷ 0 ∷ 1 ∷ 0 ∷ 0 ∷ 0 ∷ 0 ∷ []) ≡ accepts 2
unfolding file_checked row_checked rate_checked marks_checked mark_checked form_in order_in bit_at stored_rate
second_row_taken = refl

-- before a bad bit of a later row, and before 10
pub zero_then_bit : file_checked zeros_refused (2 ∷ 2 ∷ 0 ∷ 0 ∷ 0 ∷ 0 ∷ 2 ∷ []) ≡ bytes_refused 14 0 1
unfolding file_checked row_checked rate_checked marks_checked mark_checked form_in order_in bit_at stored_rate
zero_then_bit = refl

pub zero_then_more : file_checked zeros_refused (2 ∷ 2 ∷ 0 ∷ 0 ∷ 0 ∷ 0 ∷ 0 ∷ 7 ∷ []) ≡ bytes_refused 14 0 1
unfolding file_checked row_checked rate_checked marks_checked mark_checked form_in order_in bit_at stored_rate
zero_then_more = refl

-- ---- a map of two bytes

-- nine states with ten entries; with 0 in place of 256, "refused 14 0 8", or as many entries where rates of 0 are taken
pub nine_states : (file_checked zeros_refused (nine_bytes 1) ≡ accepts 10) × (file_checked zeros_refused (nine_bytes 0) ≡ bytes_refused 14 0 8)
    × (file_checked zeros_taken (nine_bytes 0) ≡ accepts 10)
unfolding file_checked row_checked rate_checked marks_checked mark_checked form_in order_in bit_at stored_rate
nine_states = (refl, refl, refl)

-- bits of the second byte: at n and above the lowest is named, and that of its own row
pub second_byte : (row_checked zeros_refused One (0 ∷ 12 ∷ []) 9 0 0 ≡ bytes_refused 9 0 10) × (row_checked zeros_refused One (0 ∷ 1 ∷ []) 9 8 0 ≡ bytes_refused 9 8 8)
unfolding row_checked rate_checked marks_checked mark_checked bit_at stored_rate
second_byte = (refl, refl)

-- one byte is no map
pub half_a_map : row_checked zeros_refused One (0 ∷ []) 9 0 0 ≡ bytes_refused 8 0 0
unfolding row_checked rate_checked marks_checked mark_checked bit_at stored_rate
half_a_map = refl
