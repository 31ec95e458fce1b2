-- Document 01, "Reasons for turning an input away", with those that requests add: the number and the two places of every refusal, and
-- whose fault it is.
use Rattle.std.specs.Prelude.{ℕ, List, Result, Ok, Err, ◌≢◌, ◌≡◌}
use Rattle.std.proofs.lemmas.List.Edits.{sets}
use Rattle.refusal.specs.declared.ChainReason.{ChainReason}
use Rattle.refusal.specs.declared.ChainReason.TheVariants as chain
use Rattle.refusal.specs.declared.BytesReason.{BytesReason}
use Rattle.refusal.specs.declared.BytesReason.TheVariants as bytes
use Rattle.refusal.specs.declared.Refusal.{Refusal}
use Rattle.refusal.specs.declared.Refusal.TheVariants.{Chain, Bytes}
use Rattle.refusal.specs.declared.Line.{Line}

-- a refusal's number and its two places (0, 0 unless named)
abbrev pub numbered : ℕ → ℕ → ℕ → Line
numbered number first second = record { number = number; first = first; second = second }

-- the table, for a chain
abbrev pub chain_line : ChainReason → Line
chain_line chain.Order = numbered 1 0 0
chain_line chain.Lengths = numbered 2 0 0
chain_line chain.Starts = numbered 3 0 0
chain_line (chain.Columns row place) = numbered 4 row place
chain_line chain.Room = numbered 5 0 0
chain_line (chain.ClosedSets first second) = numbered 6 first second
chain_line (chain.InNoRow state) = numbered 11 state 0
chain_line (chain.InTwoRows state) = numbered 12 state 0
chain_line (chain.TableRow row) = numbered 13 row 0
chain_line (chain.ZeroRate row column) = numbered 14 row column
chain_line chain.JointOrder = numbered 15 0 0

-- the table, for stored bytes
abbrev pub bytes_line : BytesReason → Line
bytes_line bytes.Order = numbered 1 0 0
bytes_line bytes.Room = numbered 5 0 0
bytes_line bytes.Short = numbered 8 0 0
bytes_line (bytes.Bit row bit) = numbered 9 row bit
bytes_line bytes.Extra = numbered 10 0 0
bytes_line (bytes.ZeroRate row column) = numbered 14 row column
bytes_line (bytes.Mark row bit) = numbered 16 row bit

abbrev pub line : Refusal → Line
line (Chain reason) = chain_line reason
line (Bytes reason) = bytes_line reason

-- the side at fault: the chain, or the stored bytes
pub data Side : Type 0 where
  of_chain of_bytes : Side

abbrev pub side : Refusal → Side
side (Chain reason) = of_chain
side (Bytes reason) = of_bytes

-- document 01's account of an answer: what is given, or a refusal with the side at fault, its number and its two places
pub data Verdict (A : Type 0) : Type 0 where
  accepts : A → Verdict A
  refuses : Side → Line → Verdict A

abbrev pub refusal : {A : Type 0} → Refusal → Verdict A
refusal r = refuses (side r) (line r)

abbrev pub verdict : Result ℕ Refusal → Verdict ℕ
verdict (Ok k) = accepts k
verdict (Err r) = refusal r

-- What the table promises of the line l of a refusal r: 7, which R-7 took out, is the number of none, and the verdict fixes the case of the
-- enum: no other refusal has that side, number and places.
pub record Listed (r : Refusal) (l : Line) : Type 0 where
  pub line_is : l ≡ line r
  pub never_7 : l.number ≢ 7
  pub the_only : (other : Refusal) → verdict (Err other) ≡ refuses (side r) l → other ≡ r

-- a refusal is passed on; otherwise what is tried next decides
abbrev pub and_then : {A B : Type 0} → Verdict A → (A → Verdict B) → Verdict B
and_then (accepts given) next = next given
and_then (refuses side line) next = refuses side line

-- a lent slice after an answer: what it is given stands from its first place on and "places beyond keep what they held"; after a
-- refusal "all memory is unchanged"
abbrev pub after : {A B : Type 0} → Verdict A → List B → List B → List B
after (accepts given) old new = sets old 0 new
after (refuses side line) old new = old
