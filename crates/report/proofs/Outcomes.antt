-- Each way out of the calls meets its contract. Assumes nothing.
use Prim.Native.Nat.{ℕ, ◌≤◌, ◌<◌}
use mathlib.Core.Bool.{true}
use mathlib.Core.List.{List, ◌++◌}
use mathlib.Core.Path.{◌≡◌, sym, ap, ◌∙◌}
use native.Mathlib.Omega.{arith}
use borrow.Author.Tests.{le-leb, lt-leb}
use lib.ListN.{length, get_or}
use Rattle.refusal.specs.Table.{line, accepts, refusal, verdict}
use Rattle.std.specs.Prelude.{Result, Ok, Err}
use Rattle.refusal.specs.declared.Refusal.{Refusal}
use Rattle.chain.specs.Rows.{Rows}
use Rattle.chain.proofs.Reading.{accepted_sound}
use Rattle.kernel.specs.Slices.{number_at}
use Rattle.kernel.proofs.Cells.{square}
use Rattle.storage.specs.declared.Reading.{Reading}
use Rattle.storage.specs.Reading.{Stored, told, Read}
use Rattle.layout.specs.Buffers.{Buffers, most_starts, most_entries, chain_in}
use Rattle.file_rules.specs.Sound.{zeros_refused}
use Rattle.storage.proofs.RoundTrips.{file_refused}
use Rattle.solver.specs.Lent.{Lent, Roomy}
use Rattle.solver.specs.Solve.{weights_of, shares_of, solved, Solvable, Solved}
use Rattle.solver.proofs.Room.{roomy_held}
use Rattle.solver.proofs.Acceptance.{accepted_solvable, solvable_accepted}
use Rattle.decimal.specs.Put.{Puts}
use Rattle.lines.specs.Lines.{header_line, answer_lines}
use Rattle.refused.specs.Refused.{refused_line, longest_refused}
use Rattle.report.specs.Report.{longest, solved_text, report_of, Reports}
use Rattle.report.proofs.EndToEnd.{end_to_end}
use Rattle.report.proofs.Input.{input_suffices}
use Rattle.report.proofs.Lengths.{answer_length}
use Rattle.solver.proofs.Tables.{numbers_begin}
use Rattle.report.proofs.Texts.{lines_are}

-- another name for the text
puts_as : {out s text after : List ℕ} {count : ℕ} → s ≡ text → Puts out 0 s after count → Puts out 0 text after count
puts_as q f = record { out_is = rw (← q) f.out_is; next_is = rw (← q) f.next_is }

-- ---- a chain that is solved

pub room_enough : {n : ℕ} {l : Lent} → n ≤ 64 → length l.work.m ≡ 4096 → length l.work.e ≡ 4096 → length l.weights.m ≡ 64
    → length l.weights.e ≡ 64 → length l.shares.m ≡ 64 → length l.shares.e ≡ 64 → Roomy n l
room_enough {n} h a b c d e f =
    let all = square n h in
    record {
      for_work = record { for_m = omega (arith, all); for_e = omega (arith, all) };
      for_weights = record { for_m = omega arith; for_e = omega arith };
      for_shares = record { for_m = omega arith; for_e = omega arith };
    }

module _ {c : Rows} {old new : Lent} {r : Result ℕ Refusal} (s : Solved c old r new) (room : Roomy c.order old) where
  verdict_is : verdict r ≡ solved c true
  verdict_is = rw (roomy_held c.order old room) at s.answer

  -- a refused one
  pub put_stopped : {f : Refusal} → r ≡ Err f → {out after : List ℕ} {count : ℕ} → Puts out 0 (refused_line (line f)) after count × (count ≤ longest_refused)
      → Puts out 0 (solved_text c) after count × (count ≤ longest)
  unfolding solved_text
  put_stopped {f} q p =
      let v : solved c true ≡ refusal f = sym verdict_is ∙ ap verdict q in
      rw v (p.0, omega (arith, p.1))

  module _ {K : ℕ} (q : r ≡ Ok K) where
    accepted : verdict r ≡ accepts K
    accepted = ap verdict q

    solvable : Solvable c old
    solvable = accepted_solvable c old (sym s.answer ∙ accepted)

    answer_text : answer_lines c.order K (number_at new.weights) (number_at new.shares) ≡ solved_text c
    unfolding solved_text
    answer_text =
        let v : solved c true ≡ accepts K = sym verdict_is ∙ accepted in
        let weights = numbers_begin c.order (weights_of c) (verdict r) old.weights room.for_weights accepted s.weights in
        let shares = numbers_begin c.order (shares_of c) (verdict r) old.shares room.for_shares accepted s.shares in
        rw v (ap (λ (l : List ℕ). header_line c.order K ++ l) (lines_are weights shares c.order 0 (omega arith)))

    short : length (solved_text c) ≤ longest
    unfolding solved_text
    short =
        let v = rw (roomy_held c.order old room) at (solvable_accepted c old solvable) in
        rw v (answer_length c solvable.accepted.sound (s.in_range K accepted))

    -- an accepted chain: its text has room, and is what was put
    pub answer_room : length (answer_lines c.order K (number_at new.weights) (number_at new.shares)) ≤ longest
    answer_room = rw answer_text short

    pub put_done : {out after : List ℕ} {count : ℕ} → Puts out 0 (answer_lines c.order K (number_at new.weights) (number_at new.shares)) after count
        → Puts out 0 (solved_text c) after count × (count ≤ longest)
    put_done f = let t = puts_as answer_text f in (t, omega (arith, t.next_is, short))

-- ---- the bytes

module _ {bytes : List ℕ} (small : (i : ℕ) → get_or bytes i 0 < 256) where
  pub reports : {out text after : List ℕ} {count : ℕ} → longest ≤ length out → text ≡ report_of bytes → Puts out 0 text after count × (count ≤ longest)
      → Reports bytes out after count
  reports {out} h q f =
      let t = puts_as q f.0 in
      record {
        out_is = rw (le-leb longest (length out) h) t.out_is;
        count_is = rw (le-leb longest (length out) h) (omega (arith, t.next_is));
        within = f.1;
        printed = end_to_end bytes small;
        suffices = input_suffices bytes;
      }

  pub reports_nothing : {out : List ℕ} → length out < longest → Reports bytes out out 0
  reports_nothing {out} h = record {
    out_is = rw (lt-leb longest (length out) h);
    count_is = rw (lt-leb longest (length out) h);
    within = omega arith;
    printed = end_to_end bytes small;
    suffices = input_suffices bytes;
  }

-- a reading into slices that have room for every chain
module _ {bytes : List ℕ} {old new : Buffers} {r : Result Reading Refusal} (d : Read zeros_refused bytes old r new)
    (a : length old.starts ≡ most_starts) (b : length old.columns ≡ most_entries) (c : length old.rates ≡ most_entries) where
  pub unread_text : {f : Refusal} → r ≡ Err f → refused_line (line f) ≡ report_of bytes
  unfolding report_of
  unread_text q = rw (file_refused d a b c q)

  module _ {reading : Reading} (q : r ≡ Ok reading) where
    left : Stored zeros_refused reading.form (chain_in new reading.order reading.entries) reading.entries bytes
    left = d.stored _ _ _ (ap told q)

    pub order_low : reading.order ≤ 64
    order_low = (accepted_sound (chain_in new reading.order reading.entries) left.passes).order.high

    pub read_text : {chain : Rows} → chain ≡ chain_in new reading.order reading.entries → solved_text chain ≡ report_of bytes
    unfolding report_of
    read_text e = rw (e, left.accepted, left.chain)
