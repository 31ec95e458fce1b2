-- Document 01, "Stored chains": what a reading answers, and what it leaves in the lent slices, where rates of 0 are refused or taken.
use Rattle.std.specs.Prelude.{ℕ, ◌≤◌, Bool, cond, List, ◌≡◌, length, Result, Ok, Err}
use Rattle.chain.specs.Rows.{Rows}
use Rattle.chain.specs.Rules.{rules_checked, checked}
use Rattle.refusal.specs.Table.{Verdict, accepts, refusal, after}
use Rattle.refusal.specs.declared.Refusal.{Refusal}
use Rattle.storage.specs.declared.Reading.{Reading}
use Rattle.layout.specs.declared.Form.{Form}
use Rattle.layout.specs.Bytes.{form_of, chain_of}
use Rattle.layout.specs.File.{file_of, file_size, most_bytes}
use Rattle.file_rules.specs.Verdict.{file_checked, read_verdict, ReadSays}
use Rattle.layout.specs.Buffers.{Buffers, chain_in}

-- document 01's account of a reading: the order, the number of entries and the form, or the refusal
abbrev pub told : Result Reading Refusal → Verdict (ℕ × ℕ × Form)
told (Ok s) = accepts (s.order, s.entries, s.form)
told (Err r) = refusal r

-- a chain with e entries and its file in a form: each is accepted and gives the other
pub record Stored (zeros : Bool) (form : Form) (c : Rows) (e : ℕ) (bytes : List ℕ) : Type 0 where
  -- where rates of 0 are taken, by 1 to 4 alone
  pub passes : cond zeros (rules_checked c) (checked c) ≡ accepts e
  pub accepted : file_checked zeros bytes ≡ accepts e
  pub file : file_of form c ≡ bytes
  pub chain : chain_of bytes ≡ c
  pub its_form : form_of bytes ≡ form
  pub size : length bytes ≡ file_size form c.order c.rates
  pub at_most : length bytes ≤ most_bytes form

-- what a reading answers, and the three slices at its exit
pub record Read (zeros : Bool) (bytes : List ℕ) (old : Buffers) (r : Result Reading Refusal) (new : Buffers) : Type 0 where
  pub answer : told r ≡ read_verdict zeros bytes (length old.starts) (length old.columns) (length old.rates)
  pub starts_are : new.starts ≡ after (told r) old.starts (chain_of bytes).starts
  pub columns_are : new.columns ≡ after (told r) old.columns (chain_of bytes).columns
  pub rates_are : new.rates ≡ after (told r) old.rates (chain_of bytes).rates
  -- what the answer says of the bytes
  pub says : ReadSays zeros bytes (length old.starts) (length old.columns) (length old.rates) (told r)
  -- accepted: the bytes are the stored form of the chain that now stands in the slices
  pub stored : (n e : ℕ) (form : Form) → told r ≡ accepts (n, e, form) → Stored zeros form (chain_in new n e) e bytes
