-- Document 01, "The printing program", with R-3's answers: the text for any bytes, and what a call that puts it into a lent buffer
-- leaves and answers.
use Rattle.std.specs.Prelude.{ℕ, ◌+◌, ◌*◌, ◌≤◌, true, cond, List, ◌≡◌, leb, length, take}
use Rattle.std.proofs.lemmas.List.Edits.{sets}
use Rattle.refusal.specs.Table.{Verdict, accepts, refuses}
use Rattle.markov.specs.Closed.{OnlyClosed}
use Rattle.chain.specs.Rows.{Rows}
use Rattle.chain.specs.Meaning.{rate_in}
use Rattle.reach.specs.Answer.{set_of}
use Rattle.layout.specs.Bytes.{chain_of}
use Rattle.layout.specs.File.{enough_bytes}
use Rattle.file_rules.specs.Sound.{zeros_refused}
use Rattle.file_rules.specs.Verdict.{file_checked}
use Rattle.solver.specs.Solve.{weights_of, shares_of, count_of, solved, Balancing, Accurate}
use Rattle.lines.specs.Lines.{answer_lines}
use Rattle.refused.specs.Refused.{refused_line}

-- the text for a chain that solving accepts with bound count K, or refuses: the first line names the whole order, and a state outside
-- the closed set has a line too, with Zero, printed as "0 0", for its weight and its share
abbrev pub text_for : Rows → Verdict ℕ → List ℕ
text_for c (accepts K) = answer_lines c.order K (weights_of c) (shares_of c)
text_for c (refuses side line) = refused_line line

-- the text for a chain, whose solving has room for everything it needs
unfoldable pub solved_text : Rows → List ℕ
solved_text c = text_for c (solved c true)

-- the text for bytes that were checked with this verdict
abbrev pub text_after : List ℕ → Verdict ℕ → List ℕ
text_after bytes (accepts entries) = solved_text (chain_of bytes)
text_after bytes (refuses side line) = refused_line line

-- "It reads one stored chain": the text for any bytes
unfoldable pub report_of : List ℕ → List ℕ
report_of bytes = text_after bytes (file_checked zeros_refused bytes)

-- no text is longer: the first line has at most 23 bytes, each of at most 64 lines of states at most 39
abbrev pub longest : ℕ
longest = 23 + 39 * 64

-- For a file whose chain is solved with bound count K: the computed set is the chain's only closed set, and K is the bound count for as
-- many states as it has. The text gives the computed weights and shares of all states, which lie within document 01's bounds, taken on
-- that set, of the exact ones, and are Zero outside it. The exact weights, 0 outside the set, balance the whole chain.
pub record Printed (bytes : List ℕ) (K : ℕ) : Type 0 where
  pub text : report_of bytes ≡ answer_lines (chain_of bytes).order K (weights_of (chain_of bytes)) (shares_of (chain_of bytes))
  pub count : K ≡ count_of (chain_of bytes)
  pub the_set : OnlyClosed (chain_of bytes).order (rate_in (chain_of bytes)) (set_of (chain_of bytes))
  pub balances : Balancing (chain_of bytes).order (rate_in (chain_of bytes)) (set_of (chain_of bytes))
  pub bounds : Accurate (chain_of bytes).order (rate_in (chain_of bytes)) (set_of (chain_of bytes)) K (weights_of (chain_of bytes)) (shares_of (chain_of bytes))

-- A buffer with room for the longest text begins with the text for the bytes, and the answer is the number of its bytes. In a shorter
-- one nothing is changed and the answer is 0. A program that reads no more than `enough_bytes` of its input misses nothing.
pub record Reports (bytes out after : List ℕ) (count : ℕ) : Type 0 where
  pub out_is : after ≡ cond (leb longest (length out)) (sets out 0 (report_of bytes)) out
  pub count_is : count ≡ cond (leb longest (length out)) (length (report_of bytes)) 0
  pub within : count ≤ longest
  pub printed : {e K : ℕ} → file_checked zeros_refused bytes ≡ accepts e → solved (chain_of bytes) true ≡ accepts K → Printed bytes K
  pub suffices : report_of (take enough_bytes bytes) ≡ report_of bytes
