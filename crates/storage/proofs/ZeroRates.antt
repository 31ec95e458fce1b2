-- Files by both readings: what is accepted where rates of 0 are refused has none, and is accepted where they are taken; what is accepted
-- where they are taken and has none is accepted where they are refused. Assumes nothing.
use Prim.Native.Nat.{ℕ, zero, suc, ◌+◌, ◌-◌, ◌<◌}
use mathlib.Core.Bool.{Bool, true, false, true≢false}
use mathlib.Core.List.{List}
use mathlib.Core.Logic.{◌≢◌}
use mathlib.Core.Path.{◌≡◌, refl, sym}
use native.Mathlib.Omega.{arith}
use lib.Dec.{ltb}
use lib.ListN.{length, get_or, get_or-append}
use lib.Seq.{get_or-append-add}
use borrow.Author.Tests.{ltb-true, ltb-false}
use Rattle.chain.proofs.SoundLaws.{order_of_lem}
use Rattle.refusal.specs.Table.{Verdict, accepts, refuses, Side}
use Rattle.refusal.specs.declared.Line.{Line}
use Rattle.layout.specs.declared.Form.{Form}
use Rattle.layout.specs.Bytes.{maps_of, marked, stored_columns, stored_count, stored_rates, rates_in, row_end, form_of, order_of, chain_of}
use Rattle.layout.proofs.Rates.{length_rates_at}
use Rattle.chain.specs.Sound.{AllPositive}
use Rattle.file_rules.specs.Sound.{zeros_taken, zeros_refused}
use Rattle.file_rules.specs.Sound.{FileSays, order_absent, order_broken, map_cut, bit_broken, marks_cut, mark_loose, rates_cut, rate_zero, mark_wrong, left_over, all_sound}
use Rattle.file_rules.specs.Verdict.{row_checked, rows_checked, file_checked}
use Rattle.file_rules.proofs.Checks.{SoundHere, row_whole, RowIs, row_of_file}
use Rattle.file_rules.proofs.Answers.{file_rows, file_is}
use Rattle.storage.proofs.Passes.{rates_more}
use Rattle.storage.proofs.Meaning.{file_says}

module _ (form : Form) (bytes : List ℕ) (n : ℕ) where
  -- the rates of one row, and of those after it
  module _ (k map : ℕ) where
    rates_here : (i : ℕ) → i < stored_count bytes n map → get_or (rates_in form bytes n (suc k) map) i 0 ≡ get_or (stored_rates form bytes n map) i 0
    rates_here i l =
        get_or-append (stored_rates form bytes n map) (rates_in form bytes n k (row_end form bytes n map)) 0 i
        (omega (arith, length_rates_at (marked form bytes n map) bytes (stored_columns bytes n map) (map + maps_of form n)))

    rates_later : (i : ℕ) → get_or (rates_in form bytes n (suc k) map) (stored_count bytes n map + i) 0 ≡ get_or (rates_in form bytes n k (row_end form bytes n map)) i 0
    rates_later i =
        rw (length_rates_at (marked form bytes n map) bytes (stored_columns bytes n map) (map + maps_of form n))
        at (get_or-append-add (stored_rates form bytes n map) (rates_in form bytes n k (row_end form bytes n map)) i 0)

  -- no rate of the k rows from a map on is 0, unless those are taken
  abbrev EachSound : Bool → ℕ → ℕ → Type 0
  EachSound zeros k map = zeros ≡ zeros_refused → (i : ℕ) → i < length (rates_in form bytes n k map) → 0 < get_or (rates_in form bytes n k map) i 0

  rows_each : (zeros : Bool) (k row map p e : ℕ) → rows_checked zeros form bytes n k row map p ≡ accepts e → EachSound zeros k map
  rows_each zeros zero row map p e h z i l = absurd (omega arith)
  rows_each zeros (suc k) row map p e h z i l =
      let s = row_of_file zeros form bytes n k row map p e h in
      go s.is (rows_each zeros k (row + 1) (row_end form bytes n map) (p + stored_count bytes n map) e s.rest z) (ltb i (stored_count bytes n map)) refl
    where
      go : RowIs zeros form bytes n row map (row_end form bytes n map)
          → ((i : ℕ) → i < length (rates_in form bytes n k (row_end form bytes n map)) → 0 < get_or (rates_in form bytes n k (row_end form bytes n map)) i 0)
          → (b : Bool) → ltb i (stored_count bytes n map) ≡ b → 0 < get_or (rates_in form bytes n (suc k) map) i 0
      go is later true t = rw (rates_here k map i (ltb-true _ _ t)) ((is.each i (ltb-true _ _ t)).positive z)
      go is later false t =
          let below = ltb-false i (stored_count bytes n map) t in
          let q : i ≡ stored_count bytes n map + (i - stored_count bytes n map) = omega arith in
          rw (q, rates_later k map (i - stored_count bytes n map)) (later (i - stored_count bytes n map) (omega (arith, rates_more form bytes n k map)))

  rows_again : (zeros zeros' : Bool) (k row map p e : ℕ) → rows_checked zeros form bytes n k row map p ≡ accepts e → EachSound zeros' k map
      → rows_checked zeros' form bytes n k row map p ≡ accepts e
  rows_again zeros zeros' zero row map p e h g = h
  rows_again zeros zeros' (suc k) row map p e h g =
      let s = row_of_file zeros form bytes n k row map p e h in
      let m = rates_more form bytes n k map in
      let each : (i : ℕ) → i < stored_count bytes n map
      → SoundHere zeros' form (marked form bytes n map) bytes (stored_columns bytes n map) (map + maps_of form n) i =
      λ i l. record { positive = λ z. rw (rates_here k map i l) at (g z i (omega arith)); as_marked = (s.is.each i l).as_marked } in
      let row' : row_checked zeros' form bytes n row map ≡ accepts (row_end form bytes n map) =
      row_whole zeros' form bytes n row map s.is.whole s.is.clean s.is.tied each in
      rw row'
      (rows_again zeros zeros' k (row + 1) (row_end form bytes n map) (p + stored_count bytes n map) e s.rest
      (λ z i l. rw (rates_later k map i) at (g z (stored_count bytes n map + i) (omega arith))))

-- ---- a whole file

file_again : (zeros zeros' : Bool) (bytes : List ℕ) (e : ℕ) → file_checked zeros bytes ≡ accepts e → EachSound (form_of bytes) bytes (order_of bytes) zeros' (order_of bytes) 1
    → file_checked zeros' bytes ≡ accepts e
file_again zeros zeros' bytes e h g =
    let f = file_is zeros bytes e h in
    sym
    (file_rows zeros' bytes f.some (order_of_lem _ f.order) (accepts e)
    (sym (rows_again (form_of bytes) bytes (order_of bytes) zeros zeros' (order_of bytes) 0 1 0 e f.rows g)))

pub file_relaxed : (zeros : Bool) (bytes : List ℕ) (e : ℕ) → file_checked zeros bytes ≡ accepts e → file_checked zeros_taken bytes ≡ accepts e
file_relaxed zeros bytes e h = file_again zeros zeros_taken bytes e h (λ z. absurd (true≢false z))

module _ (bytes : List ℕ) where
  pub file_strict : (e : ℕ) → file_checked zeros_taken bytes ≡ accepts e
      → AllPositive (chain_of bytes).rates → file_checked zeros_refused bytes ≡ accepts e
  file_strict e h g = file_again zeros_taken zeros_refused bytes e h (λ z. g)

  pub file_positive : (e : ℕ) → file_checked zeros_refused bytes ≡ accepts e
      → AllPositive (chain_of bytes).rates
  file_positive e h = rows_each (form_of bytes) bytes (order_of bytes) zeros_refused (order_of bytes) 0 1 0 e (file_is zeros_refused bytes e h).rows refl

  -- ---- no file is refused by 14 where rates of 0 are taken

  abbrev number : Verdict ℕ → ℕ
  number (accepts k) = 0
  number (refuses side line) = line.number

  said_not_14 : (v : Verdict ℕ) → FileSays zeros_taken bytes v → number v ≢ 14
  said_not_14 v (order_absent h) q = omega arith
  said_not_14 v (order_broken l h) q = omega arith
  said_not_14 v (map_cut l s h) q = omega arith
  said_not_14 v (bit_broken l s h) q = omega arith
  said_not_14 v (marks_cut l s m h) q = omega arith
  said_not_14 v (mark_loose l s m h) q = omega arith
  said_not_14 v (rates_cut l s m w h a) q = omega arith
  said_not_14 v (rate_zero l s m w a z h) q = true≢false z
  said_not_14 v (mark_wrong l s m w a z h) q = omega arith
  said_not_14 v (left_over s h) q = omega arith
  said_not_14 v (all_sound s h) q = omega arith

  pub never_14 : (side : Side) (line : Line) → file_checked zeros_taken bytes ≡ refuses side line → line.number ≢ 14
  never_14 side line h = said_not_14 (refuses side line) (rw h at (file_says zeros_taken bytes))
