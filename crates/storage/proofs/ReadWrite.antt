-- The file of the chain that accepted bytes hold is those bytes. Assumes nothing.
use Prim.Native.Nat.{ℕ, zero, suc, ◌+◌, ◌-◌, ◌*◌, ◌<◌, ◌≤◌}
use mathlib.Core.Bool.{Bool, true, false, ◌&&◌}
use mathlib.Core.List.{List, ◌∷◌, ◌++◌, append_assoc}
use mathlib.Core.Logic.{◌≢◌, inr}
use mathlib.Core.Path.{◌≡◌, refl, sym, ap, ◌∙◌}
use native.Mathlib.Omega.{arith}
use native.Mathlib.Nat.{add-zero}
use lib.Dec.{eqb, ltb}
use lib.ListN.{length, get_or, take, drop, take-append-drop}
use lib.Seq.{drop-cons, drop-drop, drop-length, take_at, drop_at}
use borrow.Author.Tests.{eqb-true, ltb-true, ltb-false}
use Rattle.basics.proofs.BoolLaws.{and_decides, and_no}
use Rattle.basics.proofs.FirstLaws.{first_is}
use Rattle.refusal.specs.Table.{accepts}
use Rattle.layout.specs.declared.Form.{Form}
use Rattle.layout.specs.declared.Form.TheVariants.{One, Two}
use Rattle.layout.specs.Bytes.{map_bytes, maps_of, bit_at, marked, stored_columns, stored_rates, row_end, stored_count, starts_in, columns_in, rates_in, form_of, order_of, chain_of}
use Rattle.file_rules.specs.Verdict.{bad_bit, first_bad_bit, loose_bit, first_loose_bit, rows_checked, file_checked}
use Rattle.layout.specs.File.{has, map_of, short_columns, marks_of, bytes_of, row_bytes, rows_bytes, file_of}
use Rattle.refusal.proofs.VerdictLaws.{accepted_if}
use Rattle.layout.proofs.Rates.{MarkedBy, length_rates_at, maps_low}
use Rattle.layout.proofs.FirstByte.{first_in}
use Rattle.file_rules.proofs.Checks.{good_bit, tied_bit, rates_marked, RowIs, row_of_file}
use Rattle.file_rules.proofs.Answers.{file_is}
use Rattle.storage.proofs.Holding.{has_in, has_out}
use Rattle.storage.proofs.MapBits.{map_back, rates_back}
use Rattle.storage.proofs.Marks.{has_marked}

-- ---- a row in which no bad bit stands

module _ (bytes : List ℕ) (n row map : ℕ) (clean : ltb (first_bad_bit bytes n row map) (8 * map_bytes n) ≡ false) where
  -- a bit that stands is a column: below n, and not the row
  pub bit_column : (j : ℕ) → j < 8 * map_bytes n → bit_at bytes map j ≡ true → (j < n) × (j ≢ row)
  bit_column j b =
      good_bit bytes n row map j
      ((first_is (bad_bit bytes n row map) 0 (8 * map_bytes n) (omega arith)).before j (omega arith)
      (omega (arith, ltb-false (first_bad_bit bytes n row map) (8 * map_bytes n) clean)))

  pub bit_clear : (j : ℕ) → j < 8 * map_bytes n → n ≤ j → bit_at bytes map j ≡ false
  bit_clear j b a = go (bit_at bytes map j) refl
    where
      go : (t : Bool) → bit_at bytes map j ≡ t → bit_at bytes map j ≡ false
      go true t = let z = (bit_column j b t).0 in absurd (omega arith)
      go false t = t

  -- so the bits of the map are the columns of the row
  pub bits_are : (j : ℕ) → j < 8 * map_bytes n → has j (stored_columns bytes n map) ≡ bit_at bytes map j
  bits_are j b = go (ltb j n) refl
    where
      go : (t : Bool) → ltb j n ≡ t → has j (stored_columns bytes n map) ≡ bit_at bytes map j
      go true t = has_in (bit_at bytes map) (n - 0) 0 j (omega arith) (omega (arith, ltb-true j n t))
      go false t = has_out (bit_at bytes map) (n - 0) 0 j (inr (omega (arith, ltb-false j n t))) ∙ sym (bit_clear j b (ltb-false j n t))

-- the second map is written as it was read
module _ (bytes : List ℕ) (n map : ℕ) (tied : ltb (first_loose_bit bytes n map) (8 * map_bytes n) ≡ false) where
  -- a bit that stands in it stands in the first
  pub mark_column : (j : ℕ) → j < 8 * map_bytes n → bit_at bytes (map + map_bytes n) j ≡ true → bit_at bytes map j ≡ true
  mark_column j b =
      tied_bit bytes n map j
      ((first_is (loose_bit bytes n map) 0 (8 * map_bytes n) (omega arith)).before j (omega arith)
      (omega (arith, ltb-false (first_loose_bit bytes n map) (8 * map_bytes n) tied)))

  module _ (row : ℕ) (clean : ltb (first_bad_bit bytes n row map) (8 * map_bytes n) ≡ false) (rates : List ℕ)
      (m : MarkedBy Two (marked Two bytes n map) (stored_columns bytes n map) rates) where
    marks_are : (j : ℕ) → j < 8 * map_bytes n → has j (short_columns (stored_columns bytes n map) rates) ≡ bit_at bytes (map + map_bytes n) j
    marks_are j b = has_marked j (marked Two bytes n map) m ∙ go (bit_at bytes (map + map_bytes n) j) refl
      where
        go : (t : Bool) → bit_at bytes (map + map_bytes n) j ≡ t → (has j (stored_columns bytes n map) && bit_at bytes (map + map_bytes n) j) ≡ bit_at bytes (map + map_bytes n) j
        go true t = and_decides (has j (stored_columns bytes n map)) _ (bits_are bytes n row map clean j b ∙ mark_column j b t)
        go false t = and_no (has j (stored_columns bytes n map)) _ t ∙ sym t

marks_back : (form : Form) (bytes : List ℕ) → ((i : ℕ) → get_or bytes i 0 < 256) → (n row map : ℕ) → ltb (first_bad_bit bytes n row map) (8 * map_bytes n) ≡ false
    → (form ≡ Two → ltb (first_loose_bit bytes n map) (8 * map_bytes n) ≡ false) → map + maps_of form n ≤ length bytes → (rates : List ℕ)
    → MarkedBy form (marked form bytes n map) (stored_columns bytes n map) rates
    → marks_of form n (stored_columns bytes n map) rates ++ drop (map + maps_of form n) bytes ≡ drop (map + map_bytes n) bytes
marks_back One bytes small n row map clean tied h rates m = refl
marks_back Two bytes small n row map clean tied h rates m =
    let a : map_of (short_columns (stored_columns bytes n map) rates) (map_bytes n) 0 ≡ take (map_bytes n) (drop (map + map_bytes n + 0) bytes) =
    map_back bytes small (map + map_bytes n) (map_bytes n) (short_columns (stored_columns bytes n map) rates)
    (marks_are bytes n map (tied refl) row clean rates m) (map_bytes n) 0 (omega arith) (omega arith) in
    let q : map + (map_bytes n + map_bytes n) ≡ map + map_bytes n + map_bytes n = omega arith in
    rw (a, add-zero, q, ← drop-drop (map_bytes n) (map + map_bytes n) bytes) (take-append-drop (map_bytes n) (drop (map + map_bytes n) bytes))

module _ (zeros : Bool) (form : Form) (bytes : List ℕ) (n row map next : ℕ) (r : RowIs zeros form bytes n row map next) where
  -- the rates are marked as they are to be
  pub row_marked_lem : MarkedBy form (marked form bytes n map) (stored_columns bytes n map) (stored_rates form bytes n map)
  row_marked_lem = rates_marked zeros form (marked form bytes n map) bytes (stored_columns bytes n map) (map + maps_of form n) r.each

  module _ (small : (i : ℕ) → get_or bytes i 0 < 256) where
    maps_back : map_of (stored_columns bytes n map) (map_bytes n) 0 ++ drop (map + map_bytes n) bytes ≡ drop map bytes
    maps_back =
        let low = maps_low form n in
        let a : map_of (stored_columns bytes n map) (map_bytes n) 0 ≡ take (map_bytes n) (drop (map + 0) bytes) =
        map_back bytes small map (map_bytes n) (stored_columns bytes n map) (bits_are bytes n row map r.clean) (map_bytes n) 0 (omega arith) (omega (arith, r.whole)) in
        rw (a, add-zero, ← drop-drop (map_bytes n) map bytes) (take-append-drop (map_bytes n) (drop map bytes))

    row_back : row_bytes form n (stored_columns bytes n map) (stored_rates form bytes n map) ++ drop (row_end form bytes n map) bytes ≡ drop map bytes
    row_back =
        let A = map_of (stored_columns bytes n map) (map_bytes n) 0 in
        let M = marks_of form n (stored_columns bytes n map) (stored_rates form bytes n map) in
        let B = bytes_of form (stored_rates form bytes n map) in
        let D = drop (row_end form bytes n map) bytes in
        append_assoc A (M ++ B) D
        ∙ ap (λ (l : List ℕ). A ++ l)
        (append_assoc M B D
        ∙ ap (λ (l : List ℕ). M ++ l) (rates_back bytes small form (marked form bytes n map) (stored_columns bytes n map) (map + maps_of form n) row_marked_lem r.whole)
        ∙ marks_back form bytes small n row map r.clean r.tied (omega (arith, r.whole)) (stored_rates form bytes n map) row_marked_lem)
        ∙ maps_back

-- ---- all rows

rows_cons : (form : Form) (bytes : List ℕ) (n k map p a : ℕ) (cs rs : List ℕ)
    → rows_bytes form n (a ∷ starts_in form bytes n k map p) cs rs
    ≡ row_bytes form n (take (p - a) cs) (take (p - a) rs) ++ rows_bytes form n (starts_in form bytes n k map p) (drop (p - a) cs) (drop (p - a) rs)
rows_cons form bytes n zero map p a cs rs = refl
rows_cons form bytes n (suc k) map p a cs rs = refl

module _ (zeros : Bool) (form : Form) (bytes : List ℕ) (small : (i : ℕ) → get_or bytes i 0 < 256) (n : ℕ) where
  rows_back : (k row map p e : ℕ) → rows_checked zeros form bytes n k row map p ≡ accepts e
      → rows_bytes form n (starts_in form bytes n k map p) (columns_in form bytes n k map) (rates_in form bytes n k map) ≡ drop map bytes
  rows_back zero row map p e h =
      let q : map ≡ length bytes = eqb-true _ _ (accepted_if (eqb map (length bytes)) _ _ _ e h).0 in
      rw q (sym (drop-length bytes))
  rows_back (suc k) row map p e h =
      let s = row_of_file zeros form bytes n k row map p e h in
      let d : p + stored_count bytes n map - p ≡ stored_count bytes n map = omega arith in
      let w : length (stored_rates form bytes n map) ≡ stored_count bytes n map = length_rates_at (marked form bytes n map) bytes (stored_columns bytes n map) (map + maps_of form n) in
      rows_cons form bytes n k (row_end form bytes n map) (p + stored_count bytes n map) p _ _
      ∙ rw (
        d,
        take_at (stored_columns bytes n map) (columns_in form bytes n k (row_end form bytes n map)) (stored_count bytes n map) refl,
        drop_at (stored_columns bytes n map) (columns_in form bytes n k (row_end form bytes n map)) (stored_count bytes n map) refl,
        take_at _ (rates_in form bytes n k (row_end form bytes n map)) (stored_count bytes n map) w,
        drop_at _ (rates_in form bytes n k (row_end form bytes n map)) (stored_count bytes n map) w,
        rows_back k (row + 1) (row_end form bytes n map) (p + stored_count bytes n map) e s.rest,
      )
      (row_back zeros form bytes n row map (row_end form bytes n map) s.is small)

-- the file of the chain that an accepted file holds, in that file's form, is that file
pub read_write : (zeros : Bool) (bytes : List ℕ) → ((i : ℕ) → get_or bytes i 0 < 256) → (e : ℕ) → file_checked zeros bytes ≡ accepts e
    → file_of (form_of bytes) (chain_of bytes) ≡ bytes
read_write zeros bytes small e h =
    let f = file_is zeros bytes e h in
    rw (rows_back zeros (form_of bytes) bytes small (order_of bytes) (order_of bytes) 0 1 0 e f.rows, first_in (get_or bytes 0 0)) (sym (drop-cons bytes 0 0 f.some))
