-- Each way out of the calls meets its contract. Assumes nothing.
use Prim.Native.Nat.{ℕ, ◌≤◌, ◌<◌}
use mathlib.Core.List.{List}
use mathlib.Core.Path.{◌≡◌, refl, sym, ap, ap₂, ◌∙◌}
use native.Mathlib.Omega.{arith}
use borrow.Author.Tests.{le-leb, lt-leb}
use lib.ListN.{length, get_or, take}
use Rattle.refusal.specs.Table.{Side, refuses, line}
use Rattle.refusal.specs.declared.Line.{Line}
use Rattle.refusal.specs.declared.Refusal.{Refusal}
use Rattle.chain.specs.Rows.{Rows}
use Rattle.chain.specs.Sound.{Accepted}
use Rattle.chain.proofs.Reading.{accepted_whole}
use Rattle.layout.specs.declared.Form.{Form}
use Rattle.layout.specs.Buffers.{Buffers, most_starts, most_entries, chain_in}
use Rattle.layout.specs.File.{file_of, longest_file, enough_bytes}
use Rattle.file_rules.specs.Sound.{zeros_refused}
use Rattle.file_rules.specs.Verdict.{file_checked}
use Rattle.storage.specs.declared.Reading.{Reading}
use Rattle.std.specs.Prelude.{Result, Ok, Err}
use Rattle.storage.specs.Reading.{told, Stored, Read}
use Rattle.storage.proofs.RoundTrips.{file_refused}
use Rattle.decimal.specs.Put.{Puts}
use Rattle.refused.specs.Refused.{refused_line}
use Rattle.report.proofs.Input.{prefix_decides}
use Rattle.conversion.specs.Conversion.{other, converted_after, convert_of, Conversion}
use Rattle.conversion.proofs.Files.{converted_file}

module _ (bytes : List ℕ) (small : (i : ℕ) → get_or bytes i 0 < 256) where
  output_suffices : convert_of (take enough_bytes bytes) ≡ convert_of bytes
  unfolding convert_of
  output_suffices = prefix_decides zeros_refused converted_after (λ a b side line. refl) bytes

  output_refused : (side : Side) (line : Line) → file_checked zeros_refused bytes ≡ refuses side line → convert_of bytes ≡ refused_line line
  unfolding convert_of
  output_refused side line h = rw h

  pub converts : {out text after : List ℕ} {count : ℕ} → longest_file ≤ length out → text ≡ convert_of bytes → Puts out 0 text after count → count ≤ longest_file
      → Conversion bytes out after count
  converts {out} h q f w = record {
    out_is = rw (le-leb longest_file (length out) h, ← q) f.out_is;
    count_is = rw (le-leb longest_file (length out) h, ← q) (omega (arith, f.next_is));
    within = w;
    file = λ p. converted_file bytes small _ p;
    turned_away = λ p. output_refused _ _ p;
    suffices = output_suffices;
  }

  pub converts_nothing : {out : List ℕ} → length out < longest_file → Conversion bytes out out 0
  converts_nothing {out} h = record {
    out_is = rw (lt-leb longest_file (length out) h);
    count_is = rw (lt-leb longest_file (length out) h);
    within = omega arith;
    file = λ p. converted_file bytes small _ p;
    turned_away = λ p. output_refused _ _ p;
    suffices = output_suffices;
  }

-- a reading into slices that have room for every chain
module _ {bytes : List ℕ} {old new : Buffers} {r : Result Reading Refusal} (d : Read zeros_refused bytes old r new)
    (a : length old.starts ≡ most_starts) (b : length old.columns ≡ most_entries) (c : length old.rates ≡ most_entries) where
  pub unread_output : {f : Refusal} → r ≡ Err f → refused_line (line f) ≡ convert_of bytes
  unfolding convert_of
  unread_output q = rw (file_refused d a b c q)

  module _ {reading : Reading} (q : r ≡ Ok reading) where
    left : Stored zeros_refused reading.form (chain_in new reading.order reading.entries) reading.entries bytes
    left = d.stored _ _ _ (ap told q)

    module _ {chain : Rows} (e : chain ≡ chain_in new reading.order reading.entries) where
      pub chain_accepted : Accepted chain
      chain_accepted = rw e (accepted_whole (chain_in new reading.order reading.entries) left.passes)

      -- in the form that the code calls the other
      pub read_output : (f : Form) → f ≡ other reading.form → file_of f chain ≡ convert_of bytes
      unfolding convert_of
      read_output f p = rw (left.accepted, e) (ap₂ (λ (g : Form) (x : Rows). file_of g x) (p ∙ ap other (sym left.its_form)) (sym left.chain))
