-- What the converting program writes for the printed example and for nine states in either form, and for refused files, by evaluation.
-- Assumes nothing.
use Prim.Native.Nat.{ℕ}
use mathlib.Core.List.{List, [], ◌∷◌}
use mathlib.Core.Path.{◌≡◌, refl}
use Rattle.decimal.specs.Decimal.{decimal, decimal_digits}
use Rattle.layout.specs.Forms.{form_in, order_in}
use Rattle.layout.specs.Bytes.{bit_at, short_rate, stored_rate}
use Rattle.layout.proofs.Cases.{two_bytes, two_short, nine_short}
use Rattle.file_rules.specs.Verdict.{file_checked, row_checked, rate_checked, marks_checked, mark_checked}
use Rattle.refused.specs.Refused.{refused_line}
use Rattle.conversion.specs.Conversion.{convert_of}

-- "02 02 03 00 00 00 01 01 00 00 00" and "82 02 02 03 00 01 01 01 00"
pub one_to_two : convert_of two_bytes ≡ two_short
unfolding convert_of file_checked row_checked marks_checked rate_checked mark_checked form_in order_in bit_at short_rate stored_rate
one_to_two = refl

pub two_to_one : convert_of two_short ≡ two_bytes
unfolding convert_of file_checked row_checked marks_checked rate_checked mark_checked form_in order_in bit_at short_rate stored_rate
two_to_one = refl

-- nine states, one rate not short: two bytes more for each rate that is, two fewer for each row
abbrev pub nine_long_bytes : List ℕ
nine_long_bytes =
    9
    ∷ 2 ∷ 1 ∷ 232 ∷ 3 ∷ 0 ∷ 0 ∷ 1 ∷ 2 ∷ 3 ∷ 4
    ∷ 4 ∷ 0 ∷ 232 ∷ 3 ∷ 0 ∷ 0
    ∷ 8 ∷ 0 ∷ 232 ∷ 3 ∷ 0 ∷ 0
    ∷ 16 ∷ 0 ∷ 232 ∷ 3 ∷ 0 ∷ 0
    ∷ 32 ∷ 0 ∷ 232 ∷ 3 ∷ 0 ∷ 0
    ∷ 64 ∷ 0 ∷ 232 ∷ 3 ∷ 0 ∷ 0
    ∷ 128 ∷ 0 ∷ 232 ∷ 3 ∷ 0 ∷ 0
    ∷ 0 ∷ 1 ∷ 232 ∷ 3 ∷ 0 ∷ 0
    ∷ 1 ∷ 0 ∷ 232 ∷ 3 ∷ 0 ∷ 0
    ∷ []

pub nine_states : (convert_of (nine_short 0) ≡ nine_long_bytes) × (convert_of nine_long_bytes ≡ nine_short 0)
unfolding convert_of file_checked row_checked marks_checked rate_checked mark_checked form_in order_in bit_at short_rate stored_rate
nine_states = (refl, refl)

-- an unmarked rate below 65,536: "refused 16 0 1"
pub turned_away : convert_of (130 ∷ 2 ∷ 0 ∷ 3 ∷ 0 ∷ 0 ∷ 0 ∷ 1 ∷ 1 ∷ 1 ∷ 0 ∷ [])
    ≡ 114 ∷ 101 ∷ 102 ∷ 117 ∷ 115 ∷ 101 ∷ 100 ∷ 32 ∷ 49 ∷ 54 ∷ 32 ∷ 48 ∷ 32 ∷ 49 ∷ 10 ∷ []
unfolding convert_of file_checked row_checked marks_checked rate_checked mark_checked form_in order_in bit_at short_rate stored_rate refused_line decimal decimal_digits
turned_away = refl

-- a chain without an answer is converted like any other
pub no_answer : convert_of (2 ∷ 0 ∷ 0 ∷ []) ≡ 130 ∷ 0 ∷ 0 ∷ 0 ∷ 0 ∷ []
unfolding convert_of file_checked row_checked marks_checked form_in order_in bit_at
no_answer = refl
