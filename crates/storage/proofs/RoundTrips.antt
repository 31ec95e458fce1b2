-- A chain written and read again is that chain, and an accepted file read and written again is that file; no reading into slices that
-- have room for every chain is refused by 5. Assumes nothing.
use Prim.Native.Nat.{ℕ, ◌≤◌}
use mathlib.Core.Bool.{Bool, true}
use mathlib.Core.List.{List}
use mathlib.Core.Path.{◌≡◌, refl, sym, ap, ap₂, ◌∙◌}
use native.Mathlib.Omega.{arith}
use lib.Dec.{leb}
use lib.ListN.{length, take}
use borrow.Author.Tests.{le-leb}
use Rattle.chain.specs.Rows.{Rows}
use Rattle.refusal.specs.Table.{Verdict, accepts, refuses, side, line, refusal, verdict, and_then}
use Rattle.std.specs.Prelude.{Result, Ok, Err}
use Rattle.refusal.specs.declared.Refusal.{Refusal}
use Rattle.layout.specs.declared.Form.{Form}
use Rattle.layout.specs.Bytes.{form_of, order_of}
use Rattle.layout.specs.File.{file_size}
use Rattle.layout.specs.Buffers.{Buffers, most_starts, most_entries}
use Rattle.storage.specs.declared.Reading.{Reading}
use Rattle.storage.specs.Reading.{told, Read}
use Rattle.file_rules.specs.Sound.{zeros_refused}
use Rattle.file_rules.specs.Verdict.{file_checked, read_verdict, HasRoom}
use Rattle.storage.specs.Writing.{write_verdict}
use Rattle.storage.specs.RoundTrips.{WriteThenRead, ReadThenWrite}
use Rattle.file_rules.proofs.Answers.{room_is, file_is}
use Rattle.file_rules.proofs.Readings.{read_room}
use Rattle.storage.proofs.Passes.{file_few}

pub write_then_read : WriteThenRead
write_then_read form c out r out' w k a old q new d room =
    let s = w.stored k a in
    let o : order_of (take k out') ≡ c.order = ap (λ (x : Rows). x.order) s.chain in
    let t : HasRoom (order_of (take k out')) (length c.columns) (length old.starts) (length old.columns) (length old.rates) = rw o room in
    let v : accepts (order_of (take k out'), length c.columns, form_of (take k out')) ≡ read_verdict zeros_refused (take k out') (length old.starts) (length old.columns) (length old.rates) =
    read_room zeros_refused (take k out') _ _ _ (length c.columns) s.accepted (room_is _ _ _ _ _ t) in
    let b : told q ≡ accepts (c.order, length c.columns, form) =
    d.answer ∙ sym v ∙ ap₂ (λ (n : ℕ) (f : Form). accepts (n, length c.columns, f)) o s.its_form in
    (b, sym (d.stored c.order (length c.columns) form b).chain ∙ s.chain)

pub read_then_write : ReadThenWrite
unfolding write_verdict
read_then_write bytes old r new d n e form a out w out' x room =
    let s = d.stored n e form a in
    let fits : leb (file_size form n (take e new.rates)) (length out) ≡ true = le-leb (file_size form n (take e new.rates)) (length out) (rw s.size at room) in
    let b : verdict w ≡ accepts (length bytes) = x.answer ∙ rw (s.passes, fits, s.size) in
    (b, sym (x.stored (length bytes) b).file ∙ s.file)

-- `most_starts` and `most_entries` do for every file: no reading into slices of these lengths is refused by 5
pub read_always : (zeros : Bool) (bytes : List ℕ) (v : Verdict ℕ) → file_checked zeros bytes ≡ v
    → and_then v (λ e. accepts (order_of bytes, e, form_of bytes)) ≡ read_verdict zeros bytes most_starts most_entries most_entries
unfolding read_verdict
read_always zeros bytes (accepts e) h =
    let few = file_few zeros bytes e h in
    let room : HasRoom (order_of bytes) e most_starts most_entries most_entries = record { for_starts = omega (arith, (file_is zeros bytes e h).order.high); for_columns = few; for_rates = few } in
    read_room zeros bytes most_starts most_entries most_entries e h (room_is (order_of bytes) e most_starts most_entries most_entries room)
read_always zeros bytes (refuses side line) h = rw h

-- so where it is refused, the bytes are
module _ {zeros : Bool} {bytes : List ℕ} {old new : Buffers} {r : Result Reading Refusal} (d : Read zeros bytes old r new)
    (a : length old.starts ≡ most_starts) (b : length old.columns ≡ most_entries) (c : length old.rates ≡ most_entries) where
  pub file_refused : {f : Refusal} → r ≡ Err f → file_checked zeros bytes ≡ refusal f
  file_refused {f} q = go (file_checked zeros bytes) refl
    where
      told_is : told r ≡ refusal f
      told_is = ap told q

      go : (v : Verdict ℕ) → file_checked zeros bytes ≡ v → v ≡ refusal f
      go (refuses s l) p =
          let e : ◌≡◌ {A = Verdict (ℕ × ℕ × Form)} (refuses s l) (refuses (side f) (line f)) =
          read_always zeros bytes (refuses s l) p ∙ sym (rw (a, b, c) at d.answer) ∙ told_is in
          cc
      go (accepts k) p =
          let e = read_always zeros bytes (accepts k) p ∙ sym (rw (a, b, c) at d.answer) ∙ told_is in
          let z : ◌≡◌ {A = ℕ} 0 1 = cc in
          absurd (omega arith)

-- and what is read has no more entries than a chain of 64 states can have
pub read_few : {zeros : Bool} {bytes : List ℕ} {old new : Buffers} {r : Result Reading Refusal} {s : Reading} → Read zeros bytes old r new → r ≡ Ok s
    → s.entries ≤ most_entries
read_few {zeros} {bytes} {s = s} d q = file_few zeros bytes s.entries (d.stored s.order s.entries s.form (ap told q)).accepted
