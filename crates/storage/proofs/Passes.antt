-- The chain that accepted bytes hold keeps the rules 1 to 4, and how many bytes they are. Assumes nothing.
use Prim.Native.Nat.{ℕ, zero, suc, ◌+◌, ◌-◌, ◌*◌, ◌<◌, ◌≤◌}
use mathlib.Core.Bool.{Bool, true, false}
use mathlib.Core.List.{List}
use mathlib.Core.Logic.{◌≢◌}
use mathlib.Core.Path.{◌≡◌, refl, ◌∙◌}
use native.Mathlib.Omega.{arith}
use native.Mathlib.Nat.{suc-mul, zero-mul, zero-add, sub-zero, mul-le-mul}
use native.Mathlib.Numerals.{add-one}
use lib.Dec.{eqb, ltb, lit≤}
use lib.ListN.{length, get_or, length-append, get_or-append}
use lib.Seq.{get_or-append-add}
use borrow.Author.Tests.{eqb-true}
use Rattle.chain.specs.Sound.{Sound}
use Rattle.refusal.specs.Table.{accepts}
use Rattle.layout.specs.declared.Form.{Form}
use Rattle.layout.specs.declared.Form.TheVariants.{One, Two}
use Rattle.layout.specs.Bytes.{map_bytes, maps_of, bit_at, marked, stored_columns, stored_rates, row_end, stored_count, starts_in, columns_in, rates_in, form_of, order_of, chain_of}
use Rattle.file_rules.specs.Verdict.{first_bad_bit, rows_checked, file_checked}
use Rattle.layout.specs.File.{rates_size, file_size, most_bytes, longest_file}
use Rattle.layout.specs.Buffers.{most_entries}
use Rattle.refusal.proofs.VerdictLaws.{accepted_if}
use Rattle.layout.proofs.Rates.{length_rates_at, marked_size, size_append, size_high}
use Rattle.file_rules.proofs.Checks.{RowIs, row_of_file}
use Rattle.file_rules.proofs.Answers.{file_is}
use Rattle.storage.proofs.Holding.{held, holding_lt}
use Rattle.storage.proofs.ReadWrite.{bit_column, row_marked_lem}
use Rattle.packing.proofs.Storing.{maps_le}

module _ (form : Form) (bytes : List ℕ) (n : ℕ) where
  -- ---- the starts

  starts_count : (k map p : ℕ) → length (starts_in form bytes n k map p) ≡ k + 1
  starts_count zero map p = refl
  starts_count (suc k) map p = omega (arith, starts_count k (row_end form bytes n map) (p + stored_count bytes n map))

  starts_head : (k map p : ℕ) → get_or (starts_in form bytes n k map p) 0 0 ≡ p
  starts_head zero map p = refl
  starts_head (suc k) map p = refl

  pub columns_more : (k map : ℕ) → length (columns_in form bytes n (suc k) map) ≡ stored_count bytes n map + length (columns_in form bytes n k (row_end form bytes n map))
  columns_more k map = length-append (stored_columns bytes n map) (columns_in form bytes n k (row_end form bytes n map))

  starts_last : (k map p : ℕ) → get_or (starts_in form bytes n k map p) k 0 ≡ p + length (columns_in form bytes n k map)
  starts_last zero map p = omega arith
  starts_last (suc k) map p = omega (arith, starts_last k (row_end form bytes n map) (p + stored_count bytes n map), columns_more k map)

  starts_low : (k map p i : ℕ) → i ≤ k → p ≤ get_or (starts_in form bytes n k map p) i 0
  starts_low k map p zero h = omega (arith, starts_head k map p)
  starts_low zero map p (suc i) h = absurd (omega arith)
  starts_low (suc k) map p (suc i) h = omega (arith, starts_low k (row_end form bytes n map) (p + stored_count bytes n map) i (omega arith))

  starts_rise : (k map p i : ℕ) → i < k → get_or (starts_in form bytes n k map p) i 0 ≤ get_or (starts_in form bytes n k map p) (suc i) 0
  starts_rise zero map p i h = absurd (omega arith)
  starts_rise (suc k) map p zero h = omega (arith, starts_head k (row_end form bytes n map) (p + stored_count bytes n map))
  starts_rise (suc k) map p (suc i) h = starts_rise k (row_end form bytes n map) (p + stored_count bytes n map) i (omega arith)

  -- ---- as many rates as columns

  pub rates_more : (k map : ℕ) → length (rates_in form bytes n (suc k) map) ≡ stored_count bytes n map + length (rates_in form bytes n k (row_end form bytes n map))
  rates_more k map =
      length-append (stored_rates form bytes n map) (rates_in form bytes n k (row_end form bytes n map))
      ∙ rw (length_rates_at (marked form bytes n map) bytes (stored_columns bytes n map) (map + maps_of form n))

  rates_count : (k map : ℕ) → length (columns_in form bytes n k map) ≡ length (rates_in form bytes n k map)
  rates_count zero map = refl
  rates_count (suc k) map = omega (arith, columns_more k map, rates_more k map, rates_count k (row_end form bytes n map))

  -- ---- the columns: the q-th of those from a row on, at place p + q

  record EntryKept (columns : List ℕ) (row p begin place : ℕ) : Type 0 where
    below : get_or columns (place - p) 0 < n
    not_row : get_or columns (place - p) 0 ≢ row
    above : begin < place → get_or columns (place - 1 - p) 0 < get_or columns (place - p) 0

  module _ (zeros : Bool) (row map next : ℕ) (r : RowIs zeros form bytes n row map next) where
    in_row : (q : ℕ) → q < stored_count bytes n map → (get_or (stored_columns bytes n map) q 0 < n) × (get_or (stored_columns bytes n map) q 0 ≢ row)
    in_row q h =
        let v = held (bit_at bytes map) (n - 0) 0 q h in
        bit_column bytes n row map r.clean (get_or (stored_columns bytes n map) q 0) (omega (arith, v.high)) v.holds

  -- a row leaves out its own column
  pub row_few : (row map : ℕ) → ltb (first_bad_bit bytes n row map) (8 * map_bytes n) ≡ false → row < n → stored_count bytes n map + 1 ≤ n
  row_few row map clean l = go (bit_at bytes map row) refl
    where
      go : (t : Bool) → bit_at bytes map row ≡ t → stored_count bytes n map + 1 ≤ n
      go true t = absurd ((bit_column bytes n row map clean row (omega arith) t).1 refl)
      go false t = omega (arith, holding_lt (bit_at bytes map) (n - 0) 0 row (omega arith) (omega arith) t)

  module _ (zeros : Bool) where
    rows_kept : (k row map p e : ℕ) → rows_checked zeros form bytes n k row map p ≡ accepts e → (i place : ℕ) → i < k
        → get_or (starts_in form bytes n k map p) i 0 ≤ place → place < get_or (starts_in form bytes n k map p) (suc i) 0
        → EntryKept (columns_in form bytes n k map) (row + i) p (get_or (starts_in form bytes n k map p) i 0) place
    rows_kept zero row map p e h i place l a b = absurd (omega arith)
    rows_kept (suc k) row map p e h zero place l a b =
        let s = row_of_file zeros form bytes n k row map p e h in
        let c : place < p + stored_count bytes n map = rw (starts_head k (row_end form bytes n map) (p + stored_count bytes n map)) at b in
        let C = stored_columns bytes n map in
        let D = columns_in form bytes n k (row_end form bytes n map) in
        let at : get_or (columns_in form bytes n (suc k) map) (place - p) 0 ≡ get_or (stored_columns bytes n map) (place - p) 0 =
        get_or-append C D 0 (place - p) (omega arith) in
        let f = in_row zeros row map (row_end form bytes n map) s.is (place - p) (omega arith) in
        let z : row + 0 ≡ row = omega arith in
        rw z
        (record {
          below = rw at f.0;
          not_row = rw at f.1;
          above = λ m.
              let v = held (bit_at bytes map) (n - 0) 0 (place - p) (omega arith) in
              rw (at, get_or-append C D 0 (place - 1 - p) (omega arith)) (v.above (place - 1 - p) (omega arith));
        })
    rows_kept (suc k) row map p e h (suc i) place l a b =
        let s = row_of_file zeros form bytes n k row map p e h in
        let C = stored_columns bytes n map in
        let D = columns_in form bytes n k (row_end form bytes n map) in
        let p' : ℕ = p + stored_count bytes n map in
        let ih = rows_kept k (row + 1) (row_end form bytes n map) (p + stored_count bytes n map) e s.rest i place (omega arith) a b in
        let low = starts_low k (row_end form bytes n map) (p + stored_count bytes n map) i (omega arith) in
        let x : place - p ≡ stored_count bytes n map + (place - (p + stored_count bytes n map)) = omega arith in
        let at : get_or (columns_in form bytes n (suc k) map) (place - p) 0 ≡ get_or (columns_in form bytes n k (row_end form bytes n map)) (place - (p + stored_count bytes n map)) 0 =
        rw x (get_or-append-add C D (place - (p + stored_count bytes n map)) 0) in
        let z : row + suc i ≡ row + 1 + i = omega arith in
        rw z
        (record {
          below = rw at ih.below;
          not_row = rw at ih.not_row;
          above = λ m.
              let y : place - 1 - p ≡ stored_count bytes n map + (place - 1 - (p + stored_count bytes n map)) = omega arith in
              rw (at, y, get_or-append-add C D (place - 1 - (p + stored_count bytes n map)) 0) (ih.above m);
        })

    -- ---- how many

    rows_total : (k row map p e : ℕ) → rows_checked zeros form bytes n k row map p ≡ accepts e → e ≡ p + length (columns_in form bytes n k map)
    rows_total zero row map p e h =
        let q : accepts p ≡ accepts e = (accepted_if (eqb map (length bytes)) _ _ _ e h).1 in
        let q' : p ≡ e = cc in
        omega arith
    rows_total (suc k) row map p e h =
        let s = row_of_file zeros form bytes n k row map p e h in
        omega (arith, rows_total k (row + 1) (row_end form bytes n map) (p + stored_count bytes n map) e s.rest, columns_more k map)

    rows_size : (k row map p e : ℕ) → rows_checked zeros form bytes n k row map p ≡ accepts e
        → length bytes ≡ map + k * maps_of form n + rates_size form (rates_in form bytes n k map)
    rows_size zero row map p e h =
        let q : map ≡ length bytes = eqb-true _ _ (accepted_if (eqb map (length bytes)) _ _ _ e h).0 in
        rw (zero-mul) (omega arith)
    rows_size (suc k) row map p e h =
        let s = row_of_file zeros form bytes n k row map p e h in
        let w = marked_size (row_marked_lem zeros form bytes n row map (row_end form bytes n map) s.is) in
        rw (suc-mul k (maps_of form n))
        (omega (
          arith,
          rows_size k (row + 1) (row_end form bytes n map) (p + stored_count bytes n map) e s.rest,
          size_append form (stored_rates form bytes n map) (rates_in form bytes n k (row_end form bytes n map)),
          w,
        ))

    rows_few : (d : ℕ) → n ≡ suc d → (k row map p e : ℕ) → row + k ≤ n → rows_checked zeros form bytes n k row map p ≡ accepts e → length (columns_in form bytes n k map) ≤ k * d
    rows_few d q zero row map p e l h = rw (zero-mul) (omega arith)
    rows_few d q (suc k) row map p e l h =
        let s = row_of_file zeros form bytes n k row map p e h in
        rw (suc-mul k d)
        (omega (
          arith,
          row_few row map s.is.clean (omega arith),
          rows_few d q k (row + 1) (row_end form bytes n map) (p + stored_count bytes n map) e (omega arith) s.rest,
          columns_more k map,
        ))

-- ---- a whole file

pub forms_le : (form : Form) (n : ℕ) → n ≤ 64 → 1 + n * maps_of form n + 4 * most_entries ≤ most_bytes form
forms_le One n h = omega (arith, maps_le n h)
forms_le Two n h = let w : map_bytes n + map_bytes n ≤ 16 = omega arith in let m : n * (map_bytes n + map_bytes n) ≤ 64 * 16 = mul-le-mul h w in omega arith

pub most_both : (form : Form) → most_bytes form ≤ longest_file
most_both One = lit≤ tt
most_both Two = lit≤ tt

module _ (zeros : Bool) (bytes : List ℕ) (e : ℕ) (h : file_checked zeros bytes ≡ accepts e) where
  pub file_entries : e ≡ length (chain_of bytes).columns
  file_entries = omega (arith, rows_total (form_of bytes) bytes (order_of bytes) zeros (order_of bytes) 0 1 0 e (file_is zeros bytes e h).rows)

  pub file_sound : Sound (chain_of bytes)
  file_sound =
      let n = order_of bytes in
      let r = (file_is zeros bytes e h).rows in
      record {
        order = (file_is zeros bytes e h).order;
        lengths = rates_count (form_of bytes) bytes (order_of bytes) (order_of bytes) 1;
        starts_rule = record {
          count = starts_count (form_of bytes) bytes n n 1 0;
          first = starts_head (form_of bytes) bytes n n 1 0;
          rises = λ i l. rw (add-one i) (starts_rise (form_of bytes) bytes n n 1 0 i l);
          last = starts_last (form_of bytes) bytes n n 1 0 ∙ zero-add (length (chain_of bytes).columns);
        };
        columns_rule = record {
          entry = λ row place l a b.
              let k = rows_kept (form_of bytes) bytes n zeros n 0 1 0 e r row place l a (rw (add-one row) at b) in
              record {
                below = rw sub-zero at k.below;
                not_row = rw (sub-zero, zero-add row) at k.not_row;
                above = λ m. rw (sub-zero (place - 1), sub-zero place) at (k.above m);
              };
        };
      }

  -- in form 1 "a file has 1 + n × (map bytes) + 4 × (entries) bytes"
  pub file_size_lem : length bytes ≡ file_size (form_of bytes) (order_of bytes) (chain_of bytes).rates
  file_size_lem = rows_size (form_of bytes) bytes (order_of bytes) zeros (order_of bytes) 0 1 0 e (file_is zeros bytes e h).rows

  -- a chain of 64 states has at most 64 × 63 entries
  pub file_few : e ≤ most_entries
  file_few =
      let n = order_of bytes in
      let o = (file_is zeros bytes e h).order in
      let c : length (chain_of bytes).columns ≤ n * (n - 1) =
      rows_few (form_of bytes) bytes n zeros (n - 1) (omega (arith, o.low)) n 0 1 0 e (omega arith) (file_is zeros bytes e h).rows in
      let o' : n - 1 ≤ 63 = omega (arith, o.high) in
      let m : n * (n - 1) ≤ 64 * 63 = mul-le-mul o.high o' in
      omega (arith, file_entries, c, m)

  -- "at most 16,641" in form 1, "at most 17,153" in form 2
  pub file_small : length bytes ≤ most_bytes (form_of bytes)
  file_small =
      let rates = size_high (form_of bytes) (chain_of bytes).rates in
      omega (
        arith,
        file_size_lem,
        rates,
        file_few,
        file_entries,
        file_sound.lengths,
        forms_le (form_of bytes) (order_of bytes) (file_is zeros bytes e h).order.high,
      )

  pub file_small_both : length bytes ≤ longest_file
  file_small_both = omega (arith, file_small, most_both (form_of bytes))
