-- What each field of the contract of `convert` says of case 2's file in either form and of a refused one, and what that of `clean` says of a file of
-- form 2, as CasesSolved for `solve`. Assumes nothing.
use mathlib.Core.List.{List, [], ◌∷◌}
use mathlib.Core.Logic.{◌≢◌}
use mathlib.Core.Path.{◌≡◌, refl}
use Prim.Native.Nat.{ℕ, ◌<◌, ◌≤◌}
use borrow.Author.Tests.{le-leb, lt-leb}
use lib.ListN.{length, get_or, take}
use lib.Seq.{sets}
use Rattle.refusal.specs.Table.{accepts, numbered}
use Rattle.layout.specs.declared.Form.TheVariants.{One, Two}
use Rattle.layout.specs.Forms.{form_in, order_in}
use Rattle.layout.specs.Bytes.{bit_at, short_rate, stored_rate, form_of, chain_of}
use Rattle.file_rules.specs.Sound.{zeros_refused}
use Rattle.file_rules.specs.Verdict.{file_checked, row_checked, marks_checked, rate_checked, mark_checked}
use Rattle.refused.specs.Refused.{refused_line}
use Rattle.report.specs.Report.{report_of}
use Rattle.cleaning.specs.Cleaning.{clean_of, CleanedFile, Rewrites}
use Rattle.cleaning.proofs.Cases as cleaning
use Rattle.conversion.specs.Conversion.{convert_of, ConvertedFile, Conversion}
use Rattle.conversion.proofs.Cases as conversion
use Rattle.worked.specs.Table.{chain2, printed, printed_short}

-- ---- converting

module _ {out after : List ℕ} {k : ℕ} where
  -- a buffer of 17153 bytes or more has room, one of fewer is kept
  pub file_put : Conversion printed out after k → 17153 ≤ length out → after ≡ sets out 0 printed_short
  file_put s h = rw (le-leb _ _ h, conversion.one_to_two) at s.out_is

  pub no_file_put : {bytes : List ℕ} → Conversion bytes out after k → length out < 17153 → after ≡ out
  no_file_put s h = rw (lt-leb _ _ h) at s.out_is

  pub file_counted : Conversion printed_short out after k → 17153 ≤ length out → k ≡ 11
  file_counted s h = rw (le-leb _ _ h, conversion.two_to_one) at s.count_is

  pub no_file_counted : {bytes : List ℕ} → Conversion bytes out after k → length out < 17153 → k ≡ 0
  no_file_counted s h = rw (lt-leb _ _ h) at s.count_is

  pub file_within : {bytes : List ℕ} → Conversion bytes out after k → k ≤ 17153
  file_within s = s.within

  pub file_bytes_suffice : {bytes : List ℕ} → Conversion bytes out after k → convert_of (take 17154 bytes) ≡ convert_of bytes
  file_bytes_suffice s = s.suffices

  -- a zero rate is 14 here; the second map of "82 02" is 8
  pub zero_rate : Conversion (130 ∷ 2 ∷ 2 ∷ 0 ∷ 0 ∷ []) out after k → convert_of (130 ∷ 2 ∷ 2 ∷ 0 ∷ 0 ∷ []) ≡ refused_line (numbered 14 0 1)
  unfolding file_checked row_checked marks_checked rate_checked mark_checked form_in order_in bit_at short_rate
  zero_rate s = s.turned_away refl

  pub cut_off : Conversion (130 ∷ 2 ∷ []) out after k → convert_of (130 ∷ 2 ∷ []) ≡ refused_line (numbered 8 0 0)
  unfolding file_checked row_checked marks_checked form_in order_in bit_at
  cut_off s = s.turned_away refl

  pub converted_2 : Conversion printed out after k → ConvertedFile printed 2
  unfolding file_checked row_checked marks_checked rate_checked mark_checked form_in order_in bit_at stored_rate
  converted_2 s = s.file {e = 2} refl

-- what is promised of the converted file
module _ (f : ConvertedFile printed 2) where
  pub accepted_2 : file_checked zeros_refused (convert_of printed) ≡ accepts 2
  accepted_2 = f.accepted

  pub chain_2 : chain_of (convert_of printed) ≡ chain2
  unfolding form_in order_in bit_at stored_rate
  chain_2 = f.chain

  pub form_2 : form_of (convert_of printed) ≡ Two
  unfolding form_in
  form_2 = f.form

  pub back_2 : convert_of (convert_of printed) ≡ printed
  back_2 = f.back

  pub text_2 : report_of (convert_of printed) ≡ report_of printed
  text_2 = f.text

  pub first_byte_2 : get_or (convert_of printed) 0 0 ≢ 114
  first_byte_2 = f.first_byte

pub form_back : ConvertedFile printed_short 2 → form_of (convert_of printed_short) ≡ One
unfolding form_in
form_back f = f.form

-- ---- cleaning a file of form 2

module _ {out after : List ℕ} {k : ℕ} where
  -- three states: 0 to 1 rate 0, marked, 0 to 2 rate 70,000, 1 to 0 rate 256, 2 to 1 rate 0, marked
  pub short_put : Rewrites cleaning.old_short out after k → 17153 ≤ length out → after ≡ sets out 0 cleaning.new_short
  short_put s h = rw (le-leb _ _ h, cleaning.short_cleaned) at s.out_is

  pub short_file : Rewrites cleaning.old_short out after k → CleanedFile cleaning.old_short
  unfolding file_checked row_checked marks_checked rate_checked mark_checked form_in order_in bit_at short_rate stored_rate
  short_file s = s.file {e = 4} refl

  -- an unmarked zero is 16, with its row and column
  pub unmarked : Rewrites (130 ∷ 2 ∷ 0 ∷ 0 ∷ 0 ∷ 0 ∷ 0 ∷ []) out after k → clean_of (130 ∷ 2 ∷ 0 ∷ 0 ∷ 0 ∷ 0 ∷ 0 ∷ []) ≡ refused_line (numbered 16 0 1)
  unfolding file_checked row_checked marks_checked rate_checked mark_checked form_in order_in bit_at stored_rate
  unmarked s = (s.turned_away refl).0

pub short_form : CleanedFile cleaning.old_short → form_of (clean_of cleaning.old_short) ≡ Two
unfolding form_in
short_form f = f.form
