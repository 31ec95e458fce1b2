-- Document 02, R-5: "A cleaning program .. rewrites the old ones without those entries": the bytes that it writes for any input, and what a
-- call that puts them into a lent buffer leaves, answers and promises.
use Rattle.std.specs.Prelude.{ℕ, ◌≤◌, ◌<◌, Bool, cond, List, ◌≢◌, ◌≡◌, leb, length, get_or, take}
use Rattle.std.proofs.lemmas.List.Edits.{sets}
use Rattle.refusal.specs.Table.{Verdict, Side, accepts, refuses}
use Rattle.refusal.specs.declared.Line.{Line}
use Rattle.chain.specs.Rows.{Rows}
use Rattle.chain.specs.Meaning.{rate_in}
use Rattle.layout.specs.Bytes.{form_of, chain_of}
use Rattle.layout.specs.File.{file_of, longest_file, enough_bytes}
use Rattle.file_rules.specs.Sound.{zeros_taken, zeros_refused}
use Rattle.file_rules.specs.Verdict.{file_checked}
use Rattle.solver.specs.Solve.{weights_of, shares_of, count_of, solved}
use Rattle.group_shares.specs.GroupShares.{group_shares_of}
use Rattle.refused.specs.Refused.{refused_line}
use Rattle.report.specs.Report.{report_of}
use Rattle.cleaned.specs.Cleaned.{cleaned}
use Rattle.cleaning.specs.WithZeros.{solved_with_zeros, report_of_with_zeros}

-- the output for bytes that were read with this verdict: the file of the chain without its entries of rate 0, in the same form (R-8:
-- "Cleaning keeps a file's form"), or the line of the refusal
abbrev pub output_after : List ℕ → Verdict ℕ → List ℕ
output_after bytes (accepts entries) = file_of (form_of bytes) (cleaned (chain_of bytes))
output_after bytes (refuses side line) = refused_line line

-- the bytes are read by the rules without 14: "A file that would be refused without 14 too gets only that "refused" line"
unfoldable pub clean_of : List ℕ → List ℕ
clean_of bytes = output_after bytes (file_checked zeros_taken bytes)

-- "the shares that an old one had by the rules until now are the clean one's, bit for bit": two chains of the same order and rates, the old
-- one solved by the rules until then, the new one by today's, with room or without
pub record SameAnswer (old new : Rows) : Type 0 where
  pub order : new.order ≡ old.order
  pub rates : (i j : ℕ) → i < old.order → rate_in new i j ≡ rate_in old i j
  pub answer : (room : Bool) → solved new room ≡ solved_with_zeros old room
  pub count : count_of new ≡ count_of old
  pub weights : (i : ℕ) → i < old.order → weights_of new i ≡ weights_of old i
  pub shares : (i : ℕ) → i < old.order → shares_of new i ≡ shares_of old i
  -- R-1's shares by group, for any table
  pub groups : (table : List ℕ) (g : ℕ) → group_shares_of new table g ≡ group_shares_of old table g

-- for bytes that the rules without 14 take
pub record CleanedFile (bytes : List ℕ) : Type 0 where
  -- the output is a file that today's reading takes, of the chain without its entries of rate 0
  pub accepted : file_checked zeros_refused (clean_of bytes) ≡ accepts (length (cleaned (chain_of bytes)).columns)
  pub chain : chain_of (clean_of bytes) ≡ cleaned (chain_of bytes)
  pub form : form_of (clean_of bytes) ≡ form_of bytes
  -- solving and printing say of it what they said of the old one
  pub same : SameAnswer (chain_of bytes) (chain_of (clean_of bytes))
  pub text : report_of (clean_of bytes) ≡ report_of_with_zeros bytes
  -- it never begins with the letter r (114) of a refusal's line; it is not longer; cleaning it changes nothing
  pub first_byte : get_or (clean_of bytes) 0 0 ≢ 114
  pub shorter : length (clean_of bytes) ≤ length bytes
  pub again : clean_of (clean_of bytes) ≡ clean_of bytes

-- A buffer with room for the longest file, which is longer than any line of a refusal, begins with the output for the bytes, and the answer is
-- the number of its bytes. In a shorter one nothing is changed and the answer is 0.
pub record Rewrites (bytes out after : List ℕ) (count : ℕ) : Type 0 where
  pub out_is : after ≡ cond (leb longest_file (length out)) (sets out 0 (clean_of bytes)) out
  pub count_is : count ≡ cond (leb longest_file (length out)) (length (clean_of bytes)) 0
  pub within : count ≤ longest_file
  pub file : {e : ℕ} → file_checked zeros_taken bytes ≡ accepts e → CleanedFile bytes
  -- "cleaning a clean file changes no byte"
  pub unchanged : {e : ℕ} → file_checked zeros_refused bytes ≡ accepts e → clean_of bytes ≡ bytes
  -- any other gets its refusal, which is never 14
  pub turned_away : {side : Side} {line : Line} → file_checked zeros_taken bytes ≡ refuses side line → (clean_of bytes ≡ refused_line line) × (line.number ≢ 14)
  -- a program that reads no more than `enough_bytes` of its input misses nothing
  pub suffices : clean_of (take enough_bytes bytes) ≡ clean_of bytes
