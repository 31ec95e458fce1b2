-- Form 2 by evaluation of the definitions: each refusal and its neighbours. Assumes nothing.
use mathlib.Core.Bool.{true, false}
use mathlib.Core.List.{List, [], ◌∷◌}
use mathlib.Core.Path.{◌≡◌, refl}
use Prim.Native.Nat.{ℕ}
use Rattle.refusal.specs.Table.{Verdict, accepts}
use Rattle.layout.specs.declared.Form.TheVariants.{One, Two}
use Rattle.layout.specs.Forms.{form_in, order_in}
use Rattle.layout.specs.Bytes.{bit_at, short_rate, stored_rate}
use Rattle.layout.proofs.Cases.{two_short, at_limit_bytes, nine_short}
use Rattle.file_rules.specs.Sound.{zeros_taken, zeros_refused}
use Rattle.file_rules.specs.Verdict.{bytes_refused, marks_checked, mark_checked, rate_checked, row_checked, file_checked, room_to_read, read_verdict}

-- the verdict on a file where rates of 0 are refused
abbrev pub met : List ℕ → Verdict ℕ
met bytes = file_checked zeros_refused bytes

-- ---- accepted: the chain of case 1, the printed example, 65,535 marked and 65,536 unmarked, nine states

pub taken : (met (129 ∷ 0 ∷ 0 ∷ []) ≡ accepts 0) × (met two_short ≡ accepts 2) × (met at_limit_bytes ≡ accepts 2) × (met (nine_short 0) ≡ accepts 10)
unfolding file_checked row_checked rate_checked marks_checked mark_checked form_in order_in bit_at short_rate stored_rate
taken = (refl, refl, refl, refl)

-- a reading answers order, entries and form; one place too few in any slice is 5
pub read : (read_verdict zeros_refused two_short 3 2 2 ≡ accepts (2, 2, Two)) × (read_verdict zeros_refused (nine_short 0) 10 10 10 ≡ accepts (9, 10, Two))
    × (read_verdict zeros_refused two_short 2 2 2 ≡ bytes_refused 5 0 0) × (read_verdict zeros_refused two_short 3 1 2 ≡ bytes_refused 5 0 0)
    × (read_verdict zeros_refused two_short 3 2 1 ≡ bytes_refused 5 0 0) × (read_verdict zeros_refused (1 ∷ 0 ∷ []) 2 0 0 ≡ accepts (1, 0, One))
unfolding read_verdict room_to_read file_checked row_checked rate_checked marks_checked mark_checked form_in order_in bit_at short_rate stored_rate
read = (refl, refl, refl, refl, refl, refl)

-- ---- the first byte: between the forms and above the second 1; nothing after it 8

pub first_byte : (met (128 ∷ []) ≡ bytes_refused 1 0 0) × (met (65 ∷ []) ≡ bytes_refused 1 0 0) × (met (193 ∷ []) ≡ bytes_refused 1 0 0)
    × (met (255 ∷ []) ≡ bytes_refused 1 0 0) × (met (192 ∷ []) ≡ bytes_refused 8 0 0) × (met (129 ∷ []) ≡ bytes_refused 8 0 0)
unfolding file_checked row_checked rate_checked marks_checked mark_checked form_in order_in bit_at short_rate stored_rate
first_byte = (refl, refl, refl, refl, refl, refl)

-- ---- the second map

-- it is not there; 9 comes before that
pub second_map_cut : (met (130 ∷ 2 ∷ []) ≡ bytes_refused 8 0 0) × (met (130 ∷ 3 ∷ []) ≡ bytes_refused 9 0 0)
    × (row_checked zeros_refused Two (2 ∷ 1 ∷ 2 ∷ []) 9 0 0 ≡ bytes_refused 8 0 0)
unfolding file_checked row_checked rate_checked marks_checked mark_checked form_in order_in bit_at short_rate stored_rate
second_map_cut = (refl, refl, refl)

-- a bit of it without its rate is 16, also at the row itself, at n and above; the lowest is named, before any rate is read
pub loose : (met (130 ∷ 0 ∷ 2 ∷ []) ≡ bytes_refused 16 0 1) × (met (130 ∷ 2 ∷ 6 ∷ []) ≡ bytes_refused 16 0 2) × (met (130 ∷ 0 ∷ 6 ∷ []) ≡ bytes_refused 16 0 1)
    × (met (130 ∷ 2 ∷ 3 ∷ 0 ∷ 0 ∷ []) ≡ bytes_refused 16 0 0) × (met (nine_short 2) ≡ bytes_refused 16 0 9)
    × (row_checked zeros_refused Two (0 ∷ 0 ∷ 0 ∷ 1 ∷ []) 9 8 0 ≡ bytes_refused 16 8 8)
unfolding file_checked row_checked rate_checked marks_checked mark_checked form_in order_in bit_at short_rate stored_rate
loose = (refl, refl, refl, refl, refl, refl)

-- ---- rate by rate

-- its two or four bytes cut short: one byte is no short rate, three are no other
pub rate_cut : (met (130 ∷ 2 ∷ 2 ∷ 3 ∷ []) ≡ bytes_refused 8 0 0) × (met (130 ∷ 2 ∷ 0 ∷ 3 ∷ 0 ∷ 1 ∷ []) ≡ bytes_refused 8 0 0)
    × (met (130 ∷ 2 ∷ 0 ∷ 3 ∷ 0 ∷ 0 ∷ []) ≡ bytes_refused 8 0 0)
unfolding file_checked row_checked rate_checked marks_checked mark_checked form_in order_in bit_at short_rate stored_rate
rate_cut = (refl, refl, refl)

-- a marked rate of 0, and an unmarked one: 14, before 16
pub rate_zero : (met (130 ∷ 2 ∷ 2 ∷ 0 ∷ 0 ∷ []) ≡ bytes_refused 14 0 1) × (met (130 ∷ 2 ∷ 0 ∷ 0 ∷ 0 ∷ 0 ∷ 0 ∷ []) ≡ bytes_refused 14 0 1)
    × (met (130 ∷ 2 ∷ 2 ∷ 0 ∷ 1 ∷ 1 ∷ 1 ∷ 0 ∷ 0 ∷ []) ≡ bytes_refused 14 1 0)
unfolding file_checked row_checked rate_checked marks_checked mark_checked form_in order_in bit_at short_rate stored_rate
rate_zero = (refl, refl, refl)

-- an unmarked rate below 65,536: 16 with row and column, before a cut in the rate after it
pub disagrees : (met (130 ∷ 2 ∷ 0 ∷ 3 ∷ 0 ∷ 0 ∷ 0 ∷ []) ≡ bytes_refused 16 0 1) × (met (131 ∷ 6 ∷ 0 ∷ 5 ∷ 0 ∷ 0 ∷ 0 ∷ 7 ∷ []) ≡ bytes_refused 16 0 1)
    × (rate_checked zeros_refused Two (7 ∷ 255 ∷ 255 ∷ 0 ∷ 0 ∷ []) 2 5 false 1 ≡ bytes_refused 16 2 5)
    × (rate_checked zeros_refused One (7 ∷ 255 ∷ 255 ∷ 0 ∷ 0 ∷ []) 2 5 false 1 ≡ accepts 5)
    × (rate_checked zeros_refused Two (7 ∷ 255 ∷ 255 ∷ 0 ∷ 0 ∷ []) 2 5 true 1 ≡ accepts 3)
unfolding file_checked row_checked rate_checked marks_checked mark_checked form_in order_in bit_at short_rate stored_rate
disagrees = (refl, refl, refl, refl, refl)

-- ---- after the last row

pub more : met (130 ∷ 2 ∷ 2 ∷ 3 ∷ 0 ∷ 1 ∷ 1 ∷ 1 ∷ 0 ∷ 0 ∷ []) ≡ bytes_refused 10 0 0
unfolding file_checked row_checked rate_checked marks_checked mark_checked form_in order_in bit_at short_rate stored_rate
more = refl

-- ---- where rates of 0 are taken: a marked one is, an unmarked one disagrees with its size

pub zeros_taken_lem : (file_checked zeros_taken (130 ∷ 2 ∷ 2 ∷ 0 ∷ 0 ∷ 1 ∷ 1 ∷ 1 ∷ 0 ∷ []) ≡ accepts 2)
    × (file_checked zeros_taken (130 ∷ 2 ∷ 0 ∷ 0 ∷ 0 ∷ 0 ∷ 0 ∷ []) ≡ bytes_refused 16 0 1)
unfolding file_checked row_checked rate_checked marks_checked mark_checked form_in order_in bit_at short_rate stored_rate
zeros_taken_lem = (refl, refl)
