-- Document 02, R-8: "A program moves an accepted file of either form into the other and gives a refused one only its "refused" line: there and
-- back gives the same bytes": the bytes that it writes for any input, and what a call that puts them into a lent buffer leaves, answers and
-- promises.
use Rattle.std.specs.Prelude.{ℕ, ◌≤◌, cond, List, ◌≢◌, ◌≡◌, leb, length, get_or, take}
use Rattle.std.proofs.lemmas.List.Edits.{sets}
use Rattle.refusal.specs.Table.{Verdict, Side, accepts, refuses}
use Rattle.refusal.specs.declared.Line.{Line}
use Rattle.layout.specs.declared.Form.{Form}
use Rattle.layout.specs.declared.Form.TheVariants.{One, Two}
use Rattle.layout.specs.Bytes.{form_of, chain_of}
use Rattle.layout.specs.File.{file_of, longest_file, enough_bytes}
use Rattle.file_rules.specs.Sound.{zeros_refused}
use Rattle.file_rules.specs.Verdict.{file_checked}
use Rattle.refused.specs.Refused.{refused_line}
use Rattle.report.specs.Report.{report_of}

abbrev pub other : Form → Form
other One = Two
other Two = One

-- the output for bytes that were read with this verdict: the file of the chain in the other form, or the line of the refusal
abbrev pub converted_after : List ℕ → Verdict ℕ → List ℕ
converted_after bytes (accepts entries) = file_of (other (form_of bytes)) (chain_of bytes)
converted_after bytes (refuses side line) = refused_line line

unfoldable pub convert_of : List ℕ → List ℕ
convert_of bytes = converted_after bytes (file_checked zeros_refused bytes)

-- for bytes that a reading takes with e entries
pub record ConvertedFile (bytes : List ℕ) (e : ℕ) : Type 0 where
  -- the output is an accepted file of the other form with the same chain
  pub accepted : file_checked zeros_refused (convert_of bytes) ≡ accepts e
  pub chain : chain_of (convert_of bytes) ≡ chain_of bytes
  pub form : form_of (convert_of bytes) ≡ other (form_of bytes)
  -- "there and back gives the same bytes"
  pub back : convert_of (convert_of bytes) ≡ bytes
  -- the printing program prints the same for both
  pub text : report_of (convert_of bytes) ≡ report_of bytes
  -- it never begins with the letter r (114) of a refusal's line
  pub first_byte : get_or (convert_of bytes) 0 0 ≢ 114

-- A buffer with room for the longest file begins with the output for the bytes, and the answer is the number of its bytes. In a shorter one
-- nothing is changed and the answer is 0.
pub record Conversion (bytes out after : List ℕ) (count : ℕ) : Type 0 where
  pub out_is : after ≡ cond (leb longest_file (length out)) (sets out 0 (convert_of bytes)) out
  pub count_is : count ≡ cond (leb longest_file (length out)) (length (convert_of bytes)) 0
  pub within : count ≤ longest_file
  pub file : {e : ℕ} → file_checked zeros_refused bytes ≡ accepts e → ConvertedFile bytes e
  pub turned_away : {side : Side} {line : Line} → file_checked zeros_refused bytes ≡ refuses side line → convert_of bytes ≡ refused_line line
  -- a program that reads no more than `enough_bytes` of its input misses nothing
  pub suffices : convert_of (take enough_bytes bytes) ≡ convert_of bytes
