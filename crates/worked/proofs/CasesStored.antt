-- What each field of the contracts of `read`, `read_with_zeros` and `write` says of case 2's file in both forms and of case 6's, with lent slices of
-- unequal lengths, as CasesSolved for `solve`. Assumes nothing.
use Rattle.std.specs.Prelude.{Err, Ok, Result}
use mathlib.Core.List.{List, [], ◌∷◌}
use mathlib.Core.Path.{◌≡◌, refl, sym}
use Prim.Native.Nat.{ℕ, ◌+◌, ◌≤◌}
use lib.ListN.{length, take, replicate}
use Rattle.refusal.specs.Table.{accepts, refuses, of_chain, of_bytes, numbered, verdict}
use Rattle.refusal.specs.declared.Refusal.{Refusal}
use Rattle.refusal.specs.declared.Refusal.TheVariants.{Chain, Bytes}
use Rattle.refusal.specs.declared.ChainReason.TheVariants as chain
use Rattle.refusal.specs.declared.BytesReason.TheVariants as bytes
use Rattle.chain.specs.Rules.{starts_sound, entry_bad, columns_checked, rules_checked, zeros_checked, checked}
use Rattle.layout.specs.declared.Form.{Form}
use Rattle.layout.specs.declared.Form.TheVariants.{One, Two}
use Rattle.layout.specs.Forms.{form_in, order_in}
use Rattle.layout.specs.Bytes.{bit_at, short_rate, stored_rate, form_of}
use Rattle.layout.specs.File.{rates_size, file_of}
use Rattle.layout.specs.Buffers.{Buffers, buffers, chain_in}
use Rattle.file_rules.specs.Sound.{zeros_taken, zeros_refused}
use Rattle.file_rules.specs.Verdict.{marks_checked, mark_checked, rate_checked, row_checked, file_checked, room_to_read, read_verdict}
use Rattle.storage.specs.declared.Reading.{Reading}
use Rattle.storage.specs.Reading.{told, Stored, Read}
use Rattle.storage.specs.Writing.{write_verdict, Written}
use Rattle.storage.proofs.SaysLaws.{says_read, says_written}
use Rattle.worked.specs.Table.{chain2, chain6, chain_mixed, printed, printed_short, stored6, stored_mixed}

-- ---- reading

-- three starts and two places for entries are needed
abbrev lent : Buffers
lent = buffers (replicate 5 7) (replicate 2 8) (replicate 3 9)

abbrev short : Buffers
short = buffers (replicate 5 7) (replicate 1 8) (replicate 3 9)

pub answer_2 : {r : Result Reading Refusal} {new : Buffers} → Read zeros_refused printed lent r new → told r ≡ accepts (2, 2, One)
unfolding read_verdict file_checked row_checked marks_checked rate_checked mark_checked form_in order_in bit_at stored_rate room_to_read
answer_2 d = d.answer

pub answer_short : {r : Result Reading Refusal} {new : Buffers} → Read zeros_refused printed short r new → told r ≡ refuses of_bytes (numbered 5 0 0)
unfolding read_verdict file_checked row_checked marks_checked rate_checked mark_checked form_in order_in bit_at stored_rate room_to_read
answer_short d = d.answer

pub answer_6 : {r : Result Reading Refusal} {new : Buffers} → Read zeros_refused stored6 lent r new → told r ≡ refuses of_bytes (numbered 14 0 1)
unfolding read_verdict file_checked row_checked marks_checked rate_checked mark_checked form_in order_in bit_at stored_rate room_to_read
answer_6 d = d.answer

pub answer_6_taken : {r : Result Reading Refusal} {new : Buffers} → Read zeros_taken stored6 lent r new → told r ≡ accepts (2, 2, One)
unfolding read_verdict file_checked row_checked marks_checked rate_checked mark_checked form_in order_in bit_at stored_rate room_to_read
answer_6_taken d = d.answer

-- the same by the facts alone, and of bytes that are refused by 5, 14, 8, 9, 10 and 1
module _ {r : Result Reading Refusal} {new : Buffers} where
  pub read_says_2 : Read zeros_refused printed lent r new → told r ≡ accepts (2, 2, One)
  unfolding read_verdict file_checked row_checked marks_checked rate_checked mark_checked form_in order_in bit_at stored_rate room_to_read
  read_says_2 d = says_read zeros_refused printed 5 2 3 d.says

  pub read_says_short : Read zeros_refused printed short r new → told r ≡ refuses of_bytes (numbered 5 0 0)
  unfolding read_verdict file_checked row_checked marks_checked rate_checked mark_checked form_in order_in bit_at stored_rate room_to_read
  read_says_short d = says_read zeros_refused printed 5 1 3 d.says

  pub read_says_6 : Read zeros_refused stored6 lent r new → told r ≡ refuses of_bytes (numbered 14 0 1)
  unfolding read_verdict file_checked row_checked marks_checked rate_checked mark_checked form_in order_in bit_at stored_rate
  read_says_6 d = says_read zeros_refused stored6 5 2 3 d.says

  pub read_says_taken : Read zeros_taken stored6 lent r new → told r ≡ accepts (2, 2, One)
  unfolding read_verdict file_checked row_checked marks_checked rate_checked mark_checked form_in order_in bit_at stored_rate room_to_read
  read_says_taken d = says_read zeros_taken stored6 5 2 3 d.says

  pub read_says_cut : Read zeros_refused (2 ∷ 2 ∷ 3 ∷ []) lent r new → told r ≡ refuses of_bytes (numbered 8 0 0)
  unfolding read_verdict file_checked row_checked marks_checked rate_checked form_in order_in bit_at
  read_says_cut d = says_read zeros_refused (2 ∷ 2 ∷ 3 ∷ []) 5 2 3 d.says

  pub read_says_bit : Read zeros_refused (2 ∷ 2 ∷ 3 ∷ 0 ∷ 0 ∷ 0 ∷ 4 ∷ []) lent r new → told r ≡ refuses of_bytes (numbered 9 1 2)
  unfolding read_verdict file_checked row_checked marks_checked rate_checked mark_checked form_in order_in bit_at stored_rate
  read_says_bit d = says_read zeros_refused (2 ∷ 2 ∷ 3 ∷ 0 ∷ 0 ∷ 0 ∷ 4 ∷ []) 5 2 3 d.says

  pub read_says_more : Read zeros_refused (1 ∷ 0 ∷ 0 ∷ []) lent r new → told r ≡ refuses of_bytes (numbered 10 0 0)
  unfolding read_verdict file_checked row_checked marks_checked form_in order_in bit_at
  read_says_more d = says_read zeros_refused (1 ∷ 0 ∷ 0 ∷ []) 5 2 3 d.says

  pub read_says_order : Read zeros_refused (65 ∷ []) lent r new → told r ≡ refuses of_bytes (numbered 1 0 0)
  unfolding read_verdict file_checked form_in order_in
  read_says_order d = says_read zeros_refused (65 ∷ []) 5 2 3 d.says

-- what a reading gives
abbrev pub given : ℕ → ℕ → Form → Result Reading Refusal
given order entries form = Ok (record { order = order; entries = entries; form = form })

-- the chain stands in front, and the places beyond are kept
pub places_2 : {new : Buffers} → Read zeros_refused printed lent (given 2 2 One) new
    → (new.starts ≡ 0 ∷ 1 ∷ 2 ∷ 7 ∷ 7 ∷ []) × (new.columns ≡ 1 ∷ 0 ∷ []) × (new.rates ≡ 3 ∷ 1 ∷ 9 ∷ [])
unfolding form_in order_in bit_at stored_rate
places_2 d = (d.starts_are, d.columns_are, d.rates_are)

-- refused: all is as it was
pub places_6 : {new : Buffers} → Read zeros_refused stored6 lent (Err (Bytes (bytes.ZeroRate 0 1))) new
    → (new.starts ≡ replicate 5 7) × (new.columns ≡ replicate 2 8) × (new.rates ≡ replicate 3 9)
places_6 d = (d.starts_are, d.columns_are, d.rates_are)

-- what now stands in the slices, and the bytes
module _ {old new : Buffers} (d : Read zeros_refused printed old (given 2 2 One) new) where
  stored_2 : Stored zeros_refused One (chain_in new 2 2) 2 printed
  stored_2 = d.stored 2 2 One refl

  pub passes_2 : checked (chain_in new 2 2) ≡ accepts 2
  passes_2 = stored_2.passes

  pub accepted_2 : file_checked zeros_refused printed ≡ accepts 2
  accepted_2 = stored_2.accepted

  pub file_2 : file_of One (chain_in new 2 2) ≡ printed
  file_2 = stored_2.file

  pub chain_2 : chain_in new 2 2 ≡ chain2
  unfolding form_in order_in bit_at stored_rate
  chain_2 = sym stored_2.chain

-- where rates of 0 are taken, the chain passes 1 to 4
pub passes_6 : {old new : Buffers} → Read zeros_taken stored6 old (given 2 2 One) new → rules_checked (chain_in new 2 2) ≡ accepts 2
passes_6 d = (d.stored 2 2 One refl).passes

-- any bytes that are read as two states with two entries: the form that their first byte tells, three bytes and the rates, or five
module _ {file : List ℕ} {old new : Buffers} where
  pub form_2 : (form : Form) → Read zeros_refused file old (given 2 2 form) new → form_of file ≡ form
  form_2 form d = (d.stored 2 2 form refl).its_form

  pub size_2 : Read zeros_refused file old (given 2 2 One) new → length file ≡ 3 + rates_size One (take 2 new.rates)
  size_2 d = (d.stored 2 2 One refl).size

  pub at_most_2 : Read zeros_refused file old (given 2 2 One) new → length file ≤ 16641
  at_most_2 d = (d.stored 2 2 One refl).at_most

  pub size_short : Read zeros_refused file old (given 2 2 Two) new → length file ≡ 5 + rates_size Two (take 2 new.rates)
  size_short d = (d.stored 2 2 Two refl).size

  pub at_most_short : Read zeros_refused file old (given 2 2 Two) new → length file ≤ 17153
  at_most_short d = (d.stored 2 2 Two refl).at_most

-- form 2, and what 16 says
module _ {r : Result Reading Refusal} {new : Buffers} where
  pub answer_short_form : Read zeros_refused printed_short lent r new → told r ≡ accepts (2, 2, Two)
  unfolding read_verdict file_checked row_checked marks_checked rate_checked mark_checked form_in order_in bit_at short_rate room_to_read
  answer_short_form d = d.answer

  pub read_says_short_form : Read zeros_refused printed_short lent r new → told r ≡ accepts (2, 2, Two)
  unfolding read_verdict file_checked row_checked marks_checked rate_checked mark_checked form_in order_in bit_at short_rate room_to_read
  read_says_short_form d = says_read zeros_refused printed_short 5 2 3 d.says

  pub read_says_marks_cut : Read zeros_refused (130 ∷ 2 ∷ []) lent r new → told r ≡ refuses of_bytes (numbered 8 0 0)
  unfolding read_verdict file_checked row_checked marks_checked form_in order_in bit_at
  read_says_marks_cut d = says_read zeros_refused (130 ∷ 2 ∷ []) 5 2 3 d.says

  pub read_says_loose : Read zeros_refused (130 ∷ 2 ∷ 6 ∷ []) lent r new → told r ≡ refuses of_bytes (numbered 16 0 2)
  unfolding read_verdict file_checked row_checked marks_checked form_in order_in bit_at
  read_says_loose d = says_read zeros_refused (130 ∷ 2 ∷ 6 ∷ []) 5 2 3 d.says

  pub read_says_unmarked : Read zeros_refused (131 ∷ 0 ∷ 0 ∷ 4 ∷ 0 ∷ 3 ∷ 0 ∷ 0 ∷ 0 ∷ []) lent r new → told r ≡ refuses of_bytes (numbered 16 1 2)
  unfolding read_verdict file_checked row_checked marks_checked rate_checked mark_checked form_in order_in bit_at stored_rate
  read_says_unmarked d = says_read zeros_refused (131 ∷ 0 ∷ 0 ∷ 4 ∷ 0 ∷ 3 ∷ 0 ∷ 0 ∷ 0 ∷ []) 5 2 3 d.says

pub places_short : {new : Buffers} → Read zeros_refused stored_mixed lent (given 2 2 Two) new
    → (new.starts ≡ 0 ∷ 1 ∷ 2 ∷ 7 ∷ 7 ∷ []) × (new.columns ≡ 1 ∷ 0 ∷ []) × (new.rates ≡ 513 ∷ 134678021 ∷ 9 ∷ [])
unfolding form_in order_in bit_at short_rate stored_rate
places_short d = (d.starts_are, d.columns_are, d.rates_are)

-- ---- writing

pub written_2 : {r : Result ℕ Refusal} {out : List ℕ} → Written One chain2 (replicate 13 7) r out → verdict r ≡ accepts 11
unfolding write_verdict checked rules_checked zeros_checked starts_sound columns_checked entry_bad
written_2 w = w.answer

pub written_short : {r : Result ℕ Refusal} {out : List ℕ} → Written One chain2 (replicate 10 7) r out → verdict r ≡ refuses of_chain (numbered 5 0 0)
unfolding write_verdict checked rules_checked zeros_checked starts_sound columns_checked entry_bad
written_short w = w.answer

pub bytes_2 : {out : List ℕ} → Written One chain2 (replicate 13 7) (Ok 11) out → out ≡ 2 ∷ 2 ∷ 3 ∷ 0 ∷ 0 ∷ 0 ∷ 1 ∷ 1 ∷ 0 ∷ 0 ∷ 0 ∷ 7 ∷ 7 ∷ []
bytes_2 w = w.out_is

pub bytes_kept : {out : List ℕ} → Written One chain6 (replicate 13 7) (Err (Chain (chain.ZeroRate 0 1))) out → out ≡ replicate 13 7
bytes_kept w = w.out_is

-- in form 2: eleven bytes; case 2 has nine, and eight are too few
pub bytes_short : {out : List ℕ} → Written Two chain_mixed (replicate 13 7) (Ok 11) out → out ≡ 130 ∷ 2 ∷ 2 ∷ 1 ∷ 2 ∷ 1 ∷ 0 ∷ 5 ∷ 6 ∷ 7 ∷ 8 ∷ 7 ∷ 7 ∷ []
bytes_short w = w.out_is

pub written_short_form : {r : Result ℕ Refusal} {out : List ℕ} → Written Two chain2 (replicate 9 7) r out → verdict r ≡ accepts 9
unfolding write_verdict checked rules_checked zeros_checked starts_sound columns_checked entry_bad
written_short_form w = w.answer

pub write_says_short_form : {r : Result ℕ Refusal} {out : List ℕ} → Written Two chain2 (replicate 8 7) r out → verdict r ≡ refuses of_chain (numbered 5 0 0)
unfolding write_verdict checked rules_checked zeros_checked starts_sound columns_checked entry_bad
write_says_short_form w = says_written Two chain2 8 w.says

pub written_file_short : {old out : List ℕ} → Written Two chain2 old (Ok 9) out → take 9 out ≡ printed_short
written_file_short w = sym (w.stored 9 refl).file

-- the same by the facts alone
pub write_says_2 : {r : Result ℕ Refusal} {out : List ℕ} → Written One chain2 (replicate 13 7) r out → verdict r ≡ accepts 11
unfolding write_verdict checked rules_checked zeros_checked starts_sound columns_checked entry_bad
write_says_2 w = says_written One chain2 13 w.says

pub write_says_short : {r : Result ℕ Refusal} {out : List ℕ} → Written One chain2 (replicate 10 7) r out → verdict r ≡ refuses of_chain (numbered 5 0 0)
unfolding write_verdict checked rules_checked zeros_checked starts_sound columns_checked entry_bad
write_says_short w = says_written One chain2 10 w.says

pub write_says_6 : {r : Result ℕ Refusal} {out : List ℕ} → Written One chain6 (replicate 10 7) r out → verdict r ≡ refuses of_chain (numbered 14 0 1)
unfolding write_verdict checked rules_checked zeros_checked starts_sound columns_checked entry_bad
write_says_6 w = says_written One chain6 10 w.says

pub written_file : {old out : List ℕ} → Written One chain2 old (Ok 11) out → take 11 out ≡ printed
written_file w = sym (w.stored 11 refl).file
