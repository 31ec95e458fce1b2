-- Each way out of the calls meets its contract. Assumes nothing.
use Prim.Native.Nat.{ℕ, ◌+◌, ◌≤◌, ◌<◌}
use mathlib.Core.List.{List}
use mathlib.Core.Logic.{◌≢◌}
use mathlib.Core.Path.{◌≡◌, refl, sym, ap, subst, ◌∙◌}
use native.Mathlib.Omega.{arith}
use borrow.Author.Tests.{le-leb, lt-leb}
use lib.ListN.{length, get_or, take}
use Rattle.refusal.specs.Table.{Side, refuses, line}
use Rattle.refusal.specs.declared.Line.{Line}
use Rattle.refusal.specs.declared.Refusal.{Refusal}
use Rattle.chain.specs.Rows.{Rows, rows}
use Rattle.chain.specs.Sound.{Sound, Accepted}
use Rattle.chain.proofs.Reading.{rules_sound}
use Rattle.layout.specs.declared.Form.{Form}
use Rattle.layout.specs.Buffers.{Buffers, most_starts, most_entries, chain_in}
use Rattle.layout.specs.File.{file_of, longest_file, enough_bytes}
use Rattle.file_rules.specs.Sound.{zeros_taken}
use Rattle.file_rules.specs.Verdict.{file_checked}
use Rattle.storage.specs.declared.Reading.{Reading}
use Rattle.std.specs.Prelude.{Result, Ok, Err}
use Rattle.storage.specs.Reading.{told, Stored, Read}
use Rattle.storage.proofs.RoundTrips.{file_refused}
use Rattle.storage.proofs.ZeroRates.{never_14}
use Rattle.decimal.specs.Put.{Puts}
use Rattle.refused.specs.Refused.{refused_line}
use Rattle.report.proofs.Input.{prefix_decides}
use Rattle.cleaned.specs.Cleaned.{cleaned}
use Rattle.cleaned.specs.Inner.{Clean, Cleans}
use Rattle.cleaned.proofs.CleanedLaws.{cleaned_fewer}
use Rattle.cleaned.proofs.Slices.{cleaned_in}
use Rattle.cleaning.specs.Cleaning.{output_after, clean_of, Rewrites}
use Rattle.cleaning.proofs.Files.{cleaned_accepted, cleaned_file, file_unchanged}

-- ---- the bytes

module _ (bytes : List ℕ) (small : (i : ℕ) → get_or bytes i 0 < 256) where
  output_suffices : clean_of (take enough_bytes bytes) ≡ clean_of bytes
  unfolding clean_of
  output_suffices = prefix_decides zeros_taken output_after (λ a b side line. refl) bytes

  output_refused : (side : Side) (line : Line) → file_checked zeros_taken bytes ≡ refuses side line → (clean_of bytes ≡ refused_line line) × (line.number ≢ 14)
  unfolding clean_of
  output_refused side line h = (rw h, never_14 bytes side line h)

  pub rewrites : {out text after : List ℕ} {count : ℕ} → longest_file ≤ length out → text ≡ clean_of bytes → Puts out 0 text after count → count ≤ longest_file
      → Rewrites bytes out after count
  rewrites {out} h q f w = record {
    out_is = rw (le-leb longest_file (length out) h, ← q) f.out_is;
    count_is = rw (le-leb longest_file (length out) h, ← q) (omega (arith, f.next_is));
    within = w;
    file = λ p. cleaned_file bytes small _ p;
    unchanged = λ p. file_unchanged bytes small _ p;
    turned_away = λ p. output_refused _ _ p;
    suffices = output_suffices;
  }

  pub rewrites_nothing : {out : List ℕ} → length out < longest_file → Rewrites bytes out out 0
  rewrites_nothing {out} h = record {
    out_is = rw (lt-leb longest_file (length out) h);
    count_is = rw (lt-leb longest_file (length out) h);
    within = omega arith;
    file = λ p. cleaned_file bytes small _ p;
    unchanged = λ p. file_unchanged bytes small _ p;
    turned_away = λ p. output_refused _ _ p;
    suffices = output_suffices;
  }

-- a reading into slices that have room for every chain
module _ {bytes : List ℕ} {old new : Buffers} {r : Result Reading Refusal} (d : Read zeros_taken bytes old r new)
    (a : length old.starts ≡ most_starts) (b : length old.columns ≡ most_entries) (c : length old.rates ≡ most_entries) where
  pub unread_output : {f : Refusal} → r ≡ Err f → refused_line (line f) ≡ clean_of bytes
  unfolding clean_of
  unread_output q = rw (file_refused d a b c q)

  module _ {reading : Reading} (q : r ≡ Ok reading) where
    left : Stored zeros_taken reading.form (chain_in new reading.order reading.entries) reading.entries bytes
    left = d.stored _ _ _ (ap told q)

    module _ {chain : Rows} (e : chain ≡ chain_in new reading.order reading.entries) where
      pub chain_sound : Sound chain
      chain_sound = rw e (rules_sound (chain_in new reading.order reading.entries) left.passes)

      pub read_output : file_of reading.form (cleaned chain) ≡ clean_of bytes
      unfolding clean_of
      read_output = rw (e, left.accepted, left.chain, left.its_form)

-- ---- a chain that was cleaned into second slices

module _ {c : Rows} {starts columns rates starts' columns' rates' : List ℕ} {kept : ℕ} (sound : Sound c) (a : Clean c starts columns rates)
    (d : Cleans c starts columns rates kept starts' columns' rates') where
  pub kept_low : kept ≤ length c.columns
  kept_low = omega (arith, d.count, cleaned_fewer c)

  pub kept_accepted : Accepted (rows c.order (take (c.order + 1) starts') (take kept columns') (take kept rates'))
  kept_accepted = subst Accepted (sym (cleaned_in sound a d)) (cleaned_accepted sound)

  pub kept_put : (form : Form) {chain : Rows} {out out' : List ℕ} {r : ℕ} → chain ≡ rows c.order (take (c.order + 1) starts') (take kept columns') (take kept rates')
      → Puts out 0 (file_of form chain) out' r → Puts out 0 (file_of form (cleaned c)) out' r
  kept_put form {out = out} {out' = out'} {r = r} e f = subst (λ (x : Rows). Puts out 0 (file_of form x) out' r) (e ∙ cleaned_in sound a d) f
