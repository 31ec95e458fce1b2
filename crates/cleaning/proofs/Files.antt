-- A file that the rules without 14 take, and the file of its chain without the entries of rate 0. Assumes nothing.
use mathlib.Core.Bool.{true}
use mathlib.Core.List.{List, [], ◌∷◌}
use mathlib.Core.Path.{◌≡◌, sym, subst}
use Prim.Native.Nat.{ℕ, zero, suc, ◌<◌, ◌≤◌}
use native.Mathlib.Omega.{arith}
use lib.ListN.{length, get_or}
use Rattle.refusal.specs.Table.{Verdict, accepts}
use Rattle.chain.specs.Rows.{Rows}
use Rattle.chain.specs.Sound.{Sound, AllPositive, Accepted}
use Rattle.layout.specs.declared.Form.{Form}
use Rattle.layout.specs.Bytes.{form_of, chain_of}
use Rattle.layout.specs.File.{rates_size, file_of}
use Rattle.layout.proofs.FirstByte.{no_letter}
use Rattle.layout.proofs.Fit.{rates_fit}
use Rattle.file_rules.specs.Sound.{zeros_taken, zeros_refused}
use Rattle.file_rules.specs.Verdict.{file_checked}
use Rattle.storage.proofs.Passes.{file_sound, file_size_lem}
use Rattle.storage.proofs.Calls.{held_size}
use Rattle.storage.proofs.ReadWrite.{read_write}
use Rattle.storage.proofs.WriteRead.{Holds, file_forth}
use Rattle.storage.proofs.ZeroRates.{file_relaxed, file_strict, file_positive}
use Rattle.report.specs.Report.{text_for, solved_text, report_of}
use Rattle.cleaned.specs.Cleaned.{kept, cleaned}
use Rattle.cleaned.proofs.CleanedLaws.{cleaned_sound, cleaned_positive, cleaned_rates, cleaned_same, cleaned_fit}
use Rattle.cleaning.specs.WithZeros.{solved_with_zeros, solved_text_with_zeros, report_of_with_zeros}
use Rattle.cleaning.specs.Cleaning.{clean_of, SameAnswer, CleanedFile}
use Rattle.cleaning.proofs.Answers.{same_answer, text_is}

pub cleaned_accepted : {c : Rows} → Sound c → Accepted (cleaned c)
cleaned_accepted {c} s = record { sound = cleaned_sound s; positive = cleaned_positive c }

-- rates left out take their bytes with them
kept_size : (form : Form) (values rates : List ℕ) → rates_size form (kept values rates) ≤ rates_size form values
kept_size form [] rates = omega arith
kept_size form (v ∷ vs) [] = omega arith
kept_size form (v ∷ vs) (zero ∷ rs) = omega (arith, kept_size form vs rs)
kept_size form (v ∷ vs) (suc r ∷ rs) = omega (arith, kept_size form vs rs)

module _ (bytes : List ℕ) (fit : (i : ℕ) → get_or bytes i 0 < 256) (e : ℕ) (h : file_checked zeros_taken bytes ≡ accepts e) where
  sound : Sound (chain_of bytes)
  sound = file_sound zeros_taken bytes e h

  output_is : clean_of bytes ≡ file_of (form_of bytes) (cleaned (chain_of bytes))
  unfolding clean_of
  output_is = rw h

  holds : Holds (form_of bytes) (file_of (form_of bytes) (cleaned (chain_of bytes))) (cleaned (chain_of bytes))
  holds = file_forth (form_of bytes) (cleaned (chain_of bytes)) (cleaned_sound sound) (cleaned_fit (chain_of bytes) (rates_fit bytes fit))

  strict : file_checked zeros_refused (file_of (form_of bytes) (cleaned (chain_of bytes))) ≡ accepts (length (cleaned (chain_of bytes)).columns)
  strict =
      file_strict (file_of (form_of bytes) (cleaned (chain_of bytes))) (length (cleaned (chain_of bytes)).columns) holds.accepted
      (subst (λ (c : Rows). AllPositive c.rates) (sym holds.chain_is) (cleaned_positive (chain_of bytes)))

  again : clean_of (file_of (form_of bytes) (cleaned (chain_of bytes))) ≡ file_of (form_of bytes) (cleaned (chain_of bytes))
  unfolding clean_of
  again = rw (holds.accepted, holds.chain_is, holds.form_is, cleaned_same (cleaned_sound sound) (cleaned_positive (chain_of bytes)))

  -- the two chains have the same answer and the same text
  same : SameAnswer (chain_of bytes) (cleaned (chain_of bytes))
  unfolding cleaned
  same = same_answer (chain_of bytes) _ _ _ sound (cleaned_accepted sound) (cleaned_rates sound)

  text_same : (v : Verdict ℕ) → text_for (cleaned (chain_of bytes)) v ≡ text_for (chain_of bytes) v
  unfolding cleaned
  text_same = text_is (chain_of bytes) _ _ _ sound (cleaned_accepted sound) (cleaned_rates sound)

  shorter : length (file_of (form_of bytes) (cleaned (chain_of bytes))) ≤ length bytes
  unfolding cleaned
  shorter =
      let a = held_size zeros_taken (form_of bytes) (file_of (form_of bytes) (cleaned (chain_of bytes))) (cleaned (chain_of bytes)) _ holds holds.accepted in
      omega (arith, a, file_size_lem zeros_taken bytes e h, kept_size (form_of bytes) (chain_of bytes).rates (chain_of bytes).rates)

  text : report_of (file_of (form_of bytes) (cleaned (chain_of bytes))) ≡ report_of_with_zeros bytes
  unfolding report_of report_of_with_zeros solved_text solved_text_with_zeros
  text = rw (strict, h, holds.chain_is, same.answer true) (text_same (solved_with_zeros (chain_of bytes) true))

  pub cleaned_file : CleanedFile bytes
  cleaned_file = record {
    accepted = rw output_is strict;
    chain = rw output_is holds.chain_is;
    form = rw output_is holds.form_is;
    same = rw (output_is, holds.chain_is) same;
    text = rw output_is text;
    first_byte = rw output_is (no_letter (cleaned (chain_of bytes)).order (omega (arith, same.order, sound.order.low)) (omega (arith, same.order, sound.order.high)) (form_of bytes));
    shorter = rw output_is shorter;
    again = rw output_is again;
  }

-- a clean file comes out as it is
pub file_unchanged : (bytes : List ℕ) → ((i : ℕ) → get_or bytes i 0 < 256) → (e : ℕ) → file_checked zeros_refused bytes ≡ accepts e → clean_of bytes ≡ bytes
unfolding clean_of
file_unchanged bytes fit e h =
    let t = file_relaxed zeros_refused bytes e h in
    rw (t, cleaned_same (file_sound zeros_taken bytes e t) (file_positive bytes e h)) (read_write zeros_taken bytes fit e t)
