-- Cases by evaluation that the table of crate `worked` does not have: 5 of a reading and of a writing, and case 6's file read with zeros
-- taken. Those of the bytes alone are in crate `checking`. Assumes nothing.
use Prim.Native.Nat.{ℕ}
use mathlib.Core.List.{List, [], ◌∷◌}
use mathlib.Core.Path.{◌≡◌, refl}
use Rattle.chain.specs.Rules.{checked, rules_checked, zeros_checked, starts_sound, columns_checked, entry_bad}
use Rattle.refusal.specs.Table.{accepts, refuses, of_chain, numbered}
use Rattle.layout.specs.declared.Form.TheVariants.{One, Two}
use Rattle.layout.specs.Forms.{form_in, order_in}
use Rattle.layout.specs.Bytes.{bit_at, stored_rate}
use Rattle.layout.proofs.Cases.{two, two_bytes, nine_long}
use Rattle.file_rules.specs.Sound.{zeros_taken, zeros_refused}
use Rattle.file_rules.specs.Verdict.{bytes_refused, mark_checked, rate_checked, marks_checked, row_checked, file_checked, room_to_read, read_verdict}
use Rattle.storage.specs.Writing.{write_verdict}

-- 5: a place short, and a byte short
short_slices : read_verdict zeros_refused two_bytes 3 2 1 ≡ bytes_refused 5 0 0
unfolding read_verdict file_checked row_checked marks_checked rate_checked mark_checked form_in order_in bit_at stored_rate room_to_read
short_slices = refl

enough_bytes_lem : (write_verdict One two 11 ≡ accepts 11) × (write_verdict Two two 9 ≡ accepts 9) × (write_verdict Two nine_long 59 ≡ accepts 59)
unfolding write_verdict checked rules_checked zeros_checked starts_sound columns_checked entry_bad
enough_bytes_lem = (refl, refl, refl)

short_bytes : (write_verdict One two 10 ≡ refuses of_chain (numbered 5 0 0)) × (write_verdict Two two 8 ≡ refuses of_chain (numbered 5 0 0))
    × (write_verdict Two nine_long 58 ≡ refuses of_chain (numbered 5 0 0))
unfolding write_verdict checked rules_checked zeros_checked starts_sound columns_checked entry_bad
short_bytes = (refl, refl, refl)

-- case 6 as a file, read by the rules until R-5
with_zero : List ℕ
with_zero = 2 ∷ 2 ∷ 0 ∷ 0 ∷ 0 ∷ 0 ∷ 1 ∷ 5 ∷ 0 ∷ 0 ∷ 0 ∷ []

zero_taken : read_verdict zeros_taken with_zero 3 2 2 ≡ accepts (2, 2, One)
unfolding with_zero read_verdict file_checked row_checked marks_checked rate_checked mark_checked form_in order_in bit_at stored_rate room_to_read
zero_taken = refl
