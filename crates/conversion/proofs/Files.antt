-- A file that a reading takes, and the file of its chain in the other form. Assumes nothing.
use mathlib.Core.List.{List}
use mathlib.Core.Path.{◌≡◌, refl, sym, ap, ap₂, subst, ◌∙◌}
use Prim.Native.Nat.{ℕ, ◌<◌}
use native.Mathlib.Omega.{arith}
use lib.ListN.{get_or}
use Rattle.refusal.specs.Table.{accepts}
use Rattle.chain.specs.Rows.{Rows}
use Rattle.chain.specs.Sound.{Sound, AllPositive}
use Rattle.layout.specs.declared.Form.{Form}
use Rattle.layout.specs.declared.Form.TheVariants.{One, Two}
use Rattle.layout.specs.Bytes.{form_of, chain_of}
use Rattle.layout.specs.File.{file_of}
use Rattle.layout.proofs.FirstByte.{no_letter}
use Rattle.layout.proofs.Fit.{rates_fit}
use Rattle.file_rules.specs.Sound.{zeros_refused}
use Rattle.file_rules.specs.Verdict.{file_checked}
use Rattle.storage.proofs.Passes.{file_sound, file_entries}
use Rattle.storage.proofs.ReadWrite.{read_write}
use Rattle.storage.proofs.WriteRead.{Holds, file_forth}
use Rattle.storage.proofs.ZeroRates.{file_strict, file_positive}
use Rattle.report.specs.Report.{report_of}
use Rattle.conversion.specs.Conversion.{other, convert_of, ConvertedFile}

other_twice : (form : Form) → other (other form) ≡ form
other_twice One = refl
other_twice Two = refl

module _ (bytes : List ℕ) (fit : (i : ℕ) → get_or bytes i 0 < 256) (e : ℕ) (h : file_checked zeros_refused bytes ≡ accepts e) where
  sound : Sound (chain_of bytes)
  sound = file_sound zeros_refused bytes e h

  output_is : convert_of bytes ≡ file_of (other (form_of bytes)) (chain_of bytes)
  unfolding convert_of
  output_is = rw h

  holds : Holds (other (form_of bytes)) (file_of (other (form_of bytes)) (chain_of bytes)) (chain_of bytes)
  holds = file_forth (other (form_of bytes)) (chain_of bytes) sound (rates_fit bytes fit)

  strict : file_checked zeros_refused (file_of (other (form_of bytes)) (chain_of bytes)) ≡ accepts e
  strict =
      file_strict (file_of (other (form_of bytes)) (chain_of bytes)) e (holds.accepted ∙ ap accepts (sym (file_entries zeros_refused bytes e h)))
      (subst (λ (c : Rows). AllPositive c.rates) (sym holds.chain_is) (file_positive bytes e h))

  back : convert_of (file_of (other (form_of bytes)) (chain_of bytes)) ≡ bytes
  unfolding convert_of
  back =
      rw strict
      (ap₂ (λ (f : Form) (c : Rows). file_of f c) (ap other holds.form_is ∙ other_twice (form_of bytes)) holds.chain_is ∙ read_write zeros_refused bytes fit e h)

  text : report_of (file_of (other (form_of bytes)) (chain_of bytes)) ≡ report_of bytes
  unfolding report_of
  text = rw (strict, h, holds.chain_is)

  pub converted_file : ConvertedFile bytes e
  converted_file = record {
    accepted = rw output_is strict;
    chain = rw output_is holds.chain_is;
    form = rw output_is holds.form_is;
    back = rw output_is back;
    text = rw output_is text;
    first_byte = rw output_is (no_letter (chain_of bytes).order (omega (arith, sound.order.low)) sound.order.high (other (form_of bytes)));
  }
