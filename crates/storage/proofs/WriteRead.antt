-- The file of a chain that keeps the rules 1 to 4 holds that chain, where rates of 0 are taken. Assumes nothing.
use Prim.Native.Nat.{ℕ, zero, suc, ◌+◌, ◌-◌, ◌*◌, ◌<◌, ◌≤◌}
use mathlib.Core.Bool.{Bool, true, false, true≢false}
use mathlib.Core.List.{List, [], ◌∷◌, ◌++◌, append_assoc}
use mathlib.Core.Path.{◌≡◌, refl, sym, ap, ap₂, subst, ◌∙◌}
use native.Mathlib.Omega.{arith}
use native.Mathlib.Nat.{add-zero, zero-add}
use native.Mathlib.Numerals.{add-one}
use lib.Dec.{ltb}
use lib.ListN.{length, get_or, take, drop, length-take, length-drop, length-append, take-append-drop, drop_of_length-le, get_or-eq_default}
use lib.Seq.{get_or-drop, get_or-take, drop-cons, drop-drop, drop_at, length-take-le}
use borrow.Author.Tests.{eq-eqb, ltb-true, ltb-false}
use Rattle.chain.specs.Rows.{Rows, rows, begins, ends, column_at}
use Rattle.chain.specs.Sound.{Sound, SoundEntry}
use Rattle.chain.proofs.SoundLaws.{order_of_lem, start_within}
use Rattle.basics.proofs.FirstLaws.{none_found}
use Rattle.refusal.specs.Table.{accepts}
use Rattle.layout.specs.declared.Form.{Form}
use Rattle.layout.specs.declared.Form.TheVariants.{One, Two}
use Rattle.layout.specs.Bytes.{map_bytes, maps_of, bit_at, marked, stored_columns, stored_rates, rates_at, widths, row_end, stored_count, starts_in, columns_in, rates_in, form_of, order_of, chain_of}
use Rattle.layout.proofs.Rates.{MarkedBy, marked_size}
use Rattle.layout.proofs.FirstByte.{form_in_lem, order_in_lem}
use Rattle.file_rules.specs.Sound.{zeros_taken}
use Rattle.file_rules.specs.Verdict.{bad_bit, loose_bit, first_loose_bit, row_checked, rows_checked, file_checked}
use Rattle.layout.specs.File.{has, map_of, short_columns, marks_of, bytes_of, rates_size, row_bytes, rows_bytes, file_of}
use Rattle.file_rules.proofs.Checks.{not_bad, not_loose, SoundHere, marked_here, row_whole, row_is}
use Rattle.file_rules.proofs.Answers.{file_rows}
use Rattle.packing.proofs.MapLaws.{has_there, length_map_of, length_bytes_of, length_marks, length_row}
use Rattle.packing.proofs.Storing.{drop_part, starts_next, starts_two, starts_last}
use Rattle.storage.proofs.Holding.{Rising, none, more, rising_high, holding_has}
use Rattle.storage.proofs.MapBits.{map_forth, rates_forth}
use Rattle.storage.proofs.Marks.{short_has, marked_one, marked_two}

-- ---- a row that was written at a place

pub record RowRead (form : Form) (bytes : List ℕ) (n row map : ℕ) (columns rates t : List ℕ) : Type 0 where
  pub columns_are : stored_columns bytes n map ≡ columns
  pub rates_are : stored_rates form bytes n map ≡ rates
  pub sound : row_checked zeros_taken form bytes n row map ≡ accepts (row_end form bytes n map)
  pub rest : drop (row_end form bytes n map) bytes ≡ t

module _ (form : Form) (bytes : List ℕ) (n row map : ℕ) (columns rates t : List ℕ) (e : drop map bytes ≡ row_bytes form n columns rates ++ t) (order : 0 < n)
    (inside : map ≤ length bytes) (rise : Rising n 0 columns) (own : has row columns ≡ false) (many : length rates ≡ length columns)
    (small : (i : ℕ) → get_or rates i 0 < 4294967296) where
  e' : drop map bytes ≡ map_of columns (map_bytes n) 0 ++ (marks_of form n columns rates ++ (bytes_of form rates ++ t))
  e' = e ∙ append_assoc (map_of columns (map_bytes n) 0) (marks_of form n columns rates ++ bytes_of form rates) t
      ∙ ap (λ (l : List ℕ). map_of columns (map_bytes n) 0 ++ l) (append_assoc (marks_of form n columns rates) (bytes_of form rates) t)

  bits_are : (j : ℕ) → j < 8 * map_bytes n → bit_at bytes map j ≡ has j columns
  bits_are = map_forth bytes map (map_bytes n) columns (marks_of form n columns rates ++ (bytes_of form rates ++ t)) e'

  read_columns : stored_columns bytes n map ≡ columns
  read_columns = holding_has n (bit_at bytes map) (n - 0) 0 columns (omega arith) rise (λ j a b. bits_are j (omega arith))

  after_map : drop (map + map_bytes n) bytes ≡ marks_of form n columns rates ++ (bytes_of form rates ++ t)
  after_map =
      sym (drop-drop (map_bytes n) map bytes) ∙ ap (λ (l : List ℕ). drop (map_bytes n) l) e'
      ∙ drop_at (map_of columns (map_bytes n) 0) (marks_of form n columns rates ++ (bytes_of form rates ++ t)) (map_bytes n) (length_map_of columns (map_bytes n) 0)

  after_marks : drop (map + maps_of form n) bytes ≡ bytes_of form rates ++ t
  after_marks =
      let w = length_marks form n columns rates in
      let q : map + map_bytes n + length (marks_of form n columns rates) ≡ map + maps_of form n = omega (arith, w) in
      ap (λ (k : ℕ). drop k bytes) (sym q) ∙ sym (drop-drop (length (marks_of form n columns rates)) (map + map_bytes n) bytes)
      ∙ ap (λ (l : List ℕ). drop (length (marks_of form n columns rates)) l) after_map
      ∙ drop_at (marks_of form n columns rates) (bytes_of form rates ++ t) (length (marks_of form n columns rates)) refl

  -- a bit that stands is a column of the row, so none is bad
  all_good : (j : ℕ) → j < 8 * map_bytes n → bad_bit bytes n row map j ≡ false
  all_good j h =
      not_bad bytes n row map j
      (λ t.
      let q : has j columns ≡ true = sym (bits_are j h) ∙ t in
      let below : (b : Bool) → ltb j n ≡ b → j < n = elim [ true ↦ ltb-true j n | false ↦ λ z. absurd (true≢false (sym q ∙ rising_high rise j (ltb-false j n z))) ] in
      (below (ltb j n) refl, λ z. true≢false (sym q ∙ ap (λ (x : ℕ). has x columns) z ∙ own)))

  -- the second map marks the short rates, so none of its bits is loose
  marked_is : form ≡ Two → (j : ℕ) → j < 8 * map_bytes n → bit_at bytes (map + map_bytes n) j ≡ has j (short_columns columns rates)
  marked_is q = map_forth bytes (map + map_bytes n) (map_bytes n) (short_columns columns rates) (bytes_of form rates ++ t) (after_map ∙ rw q)

  tied : form ≡ Two → ltb (first_loose_bit bytes n map) (8 * map_bytes n) ≡ false
  tied q =
      none_found (loose_bit bytes n map) (8 * map_bytes n)
      (λ j h. not_loose bytes n map j (λ t. bits_are j h ∙ short_has j columns rates (sym (marked_is q j h) ∙ t)))

  as_marked : (f : Form) → form ≡ f → MarkedBy f (marked f bytes n map) columns rates
  as_marked One q = marked_one columns rates many
  as_marked Two q = marked_two n 0 (marked Two bytes n map) columns rates rise many (λ j a b. marked_is q j (omega arith))

  wide : widths (marked form bytes n map) columns ≡ rates_size form rates
  wide = marked_size (as_marked form refl)

  bytes_are : length bytes ≡ map + maps_of form n + rates_size form rates + length t
  bytes_are =
      let x : length (drop map bytes) ≡ length bytes - map = length-drop map bytes in
      let y : length (drop map bytes) ≡ length (row_bytes form n columns rates) + length t = ap length e ∙ length-append (row_bytes form n columns rates) t in
      omega (arith, length_row form n columns rates)

  rates_read : rates_at (marked form bytes n map) bytes columns (map + maps_of form n) ≡ rates
  rates_read = rates_forth bytes form (marked form bytes n map) columns rates (map + maps_of form n) t (as_marked form refl) small after_marks

  each : (k : ℕ) → k < length columns → SoundHere zeros_taken form (marked form bytes n map) bytes columns (map + maps_of form n) k
  each k l = marked_here form (marked form bytes n map) bytes columns (map + maps_of form n) (rw rates_read (as_marked form refl)) k l

  row_forth : RowRead form bytes n row map columns rates t
  row_forth =
      record {
        columns_are = read_columns;
        rates_are = rw read_columns rates_read;
        sound =
            row_whole zeros_taken form bytes n row map (rw read_columns (omega (arith, bytes_are, wide))) (none_found (bad_bit bytes n row map) (8 * map_bytes n) all_good) tied
            (rw read_columns each);
        rest =
            rw (read_columns, wide)
            (sym (drop-drop (rates_size form rates) (map + maps_of form n) bytes) ∙ ap (λ (l : List ℕ). drop (rates_size form rates) l) after_marks
            ∙ drop_at (bytes_of form rates) t (rates_size form rates) (length_bytes_of form rates));
      }

-- ---- all rows, by their starts

-- a row from a to b, the first of these columns: they rise, stay below n and leave out the row
record RowKept (n row a b : ℕ) (columns rates : List ℕ) : Type 0 where
  order : a ≤ b
  within_columns : b - a ≤ length columns
  within_rates : b - a ≤ length rates
  rises : Rising n 0 (take (b - a) columns)
  own : has row (take (b - a) columns) ≡ false

abbrev RowsKept : ℕ → ℕ → List ℕ → List ℕ → List ℕ → Type 0
RowsKept n row [] columns rates = ⊥
RowsKept n row (a ∷ []) columns rates = (columns ≡ []) × (rates ≡ [])
RowsKept n row (a ∷ b ∷ starts) columns rates =
    RowKept n row a b columns rates × RowsKept n (row + 1) (b ∷ starts) (drop (b - a) columns) (drop (b - a) rates)

take_small : (K : ℕ) → 0 < K → (d : ℕ) (l : List ℕ) → ((i : ℕ) → get_or l i 0 < K) → (i : ℕ) → get_or (take d l) i 0 < K
take_small K z d l h i = go (ltb i d) refl
  where
    go : (t : Bool) → ltb i d ≡ t → get_or (take d l) i 0 < K
    go true t = rw (get_or-take d l i 0 (ltb-true i d t)) (h i)
    go false t = rw (get_or-eq_default (take d l) 0 {n = i} (omega (arith, length-take d l, ltb-false i d t))) z

record RowsRead (form : Form) (bytes : List ℕ) (n k row map a : ℕ) (starts columns rates : List ℕ) : Type 0 where
  starts_are : starts_in form bytes n k map a ≡ starts
  columns_are : columns_in form bytes n k map ≡ columns
  rates_are : rates_in form bytes n k map ≡ rates
  sound : rows_checked zeros_taken form bytes n k row map a ≡ accepts (a + length columns)

module _ (form : Form) (bytes : List ℕ) (n : ℕ) (order : 0 < n) where
  rows_forth : (row a : ℕ) (starts columns rates : List ℕ) (map : ℕ) → RowsKept n row (a ∷ starts) columns rates
      → ((i : ℕ) → get_or rates i 0 < 4294967296) → map ≤ length bytes → drop map bytes ≡ rows_bytes form n (a ∷ starts) columns rates
      → RowsRead form bytes n (length starts) row map a (a ∷ starts) columns rates
  rows_forth row a [] columns rates map (c0, r0) small inside e =
      let z : length bytes - map ≡ 0 = sym (length-drop map bytes) ∙ ap length e in
      record {
        starts_are = refl;
        columns_are = sym c0;
        rates_are = sym r0;
        sound = rw (c0, eq-eqb map (length bytes) (omega arith)) (ap accepts (sym (add-zero a)));
      }
  rows_forth row a (b ∷ starts) columns rates map (r, f) small inside e =
      let lc : length (take (b - a) columns) ≡ b - a = length-take-le (b - a) columns r.within_columns in
      let lr : length (take (b - a) rates) ≡ b - a = length-take-le (b - a) rates r.within_rates in
      let g = row_forth form bytes n row map (take (b - a) columns) (take (b - a) rates) (rows_bytes form n (b ∷ starts) (drop (b - a) columns) (drop (b - a) rates)) e
      order inside r.rises r.own (lr ∙ sym lc) (take_small 4294967296 (omega arith) (b - a) rates small) in
      let q : a + stored_count bytes n map ≡ b = omega (arith, ap length g.columns_are ∙ lc, r.order) in
      let h = rows_forth (row + 1) b starts (drop (b - a) columns) (drop (b - a) rates) (row_end form bytes n map) f
      (λ i. rw (get_or-drop (b - a) rates i 0) (small (b - a + i))) (row_is zeros_taken form bytes n row map (row_end form bytes n map) g.sound).whole g.rest in
      record {
        starts_are = ap (λ (l : List ℕ). a ∷ l) (rw q h.starts_are);
        columns_are = ap₂ (λ (x y : List ℕ). x ++ y) g.columns_are h.columns_are ∙ take-append-drop (b - a) columns;
        rates_are = ap₂ (λ (x y : List ℕ). x ++ y) g.rates_are h.rates_are ∙ take-append-drop (b - a) rates;
        sound = rw (g.sound, q) (h.sound ∙ ap accepts (omega (arith, length-drop (b - a) columns, r.order, r.within_columns)));
      }

-- ---- a chain that keeps the rules

module _ (c : Rows) (row b : ℕ) (inside : b ≤ length c.columns) (all : (p : ℕ) → begins c row ≤ p → p < b → SoundEntry c row p) where
  rising : (k p lo : ℕ) → begins c row ≤ p → p + k ≡ b → (p < b → lo ≤ column_at c p) → Rising c.order lo (take k (drop p c.columns))
  rising zero p lo s e h = none
  rising (suc k) p lo s e h =
      let t = all p s (omega arith) in
      rw (drop-cons c.columns p 0 (omega arith), ← add-one p)
      (more (h (omega arith)) t.below
      (rising k (p + 1) (column_at c p + 1) (omega arith) (omega arith)
      (λ l.
      let v : p + 1 - 1 ≡ p = omega arith in
      let u : column_at c p < column_at c (p + 1) = rw v at ((all (p + 1) (omega arith) l).above (omega arith)) in
      omega arith)))

  absent : (k p : ℕ) → begins c row ≤ p → p + k ≡ b → has row (take k (drop p c.columns)) ≡ false
  absent zero p s e = refl
  absent (suc k) p s e =
      rw (drop-cons c.columns p 0 (omega arith), ← add-one p)
      (has_there row (column_at c p) (take k (drop (p + 1) c.columns)) (all p s (omega arith)).not_row ∙ absent k (p + 1) (omega arith) (omega arith))

module _ {c : Rows} (g : Sound c) where
  row_kept : (row : ℕ) → row < c.order
      → RowKept c.order row (begins c row) (ends c row) (drop (begins c row) c.columns) (drop (begins c row) c.rates)
  row_kept row l =
      let a = begins c row in
      let b = ends c row in
      let o = g.starts_rule.rises row l in
      let i = start_within g.starts_rule (row + 1) (omega arith) in
      let all : (p : ℕ) → begins c row ≤ p → p < ends c row → SoundEntry c row p = λ p. g.columns_rule.entry row p l in
      record {
        order = o;
        within_columns = omega (arith, length-drop (begins c row) c.columns, o, i);
        within_rates = omega (arith, length-drop (begins c row) c.rates, o, i, g.lengths);
        rises = rising c row b i all (b - a) a 0 (omega arith) (omega arith) (λ z. omega arith);
        own = absent c row b i all (b - a) a (omega arith) (omega arith);
      }

  kept_from : (k row : ℕ) → row + k ≡ c.order
      → RowsKept c.order row (drop row c.starts) (drop (begins c row) c.columns) (drop (begins c row) c.rates)
  kept_from zero row e =
      let q : row ≡ c.order = omega arith in
      let z : begins c row ≡ length c.columns = rw q g.starts_rule.last in
      rw (starts_last c.order c.starts g.starts_rule.count row q)
      (drop_of_length-le c.columns {i = begins c row} (omega arith), drop_of_length-le c.rates {i = begins c row} (omega (arith, g.lengths)))
  kept_from (suc k) row e =
      let l : row < c.order = omega arith in
      let o = g.starts_rule.rises row l in
      let count = g.starts_rule.count in
      let ih = rw (starts_next c.order c.starts count row l) at (kept_from k (row + 1) (omega arith)) in
      rw (starts_two c.order c.starts count row l) (row_kept row l, rw (drop_part c row o c.columns, drop_part c row o c.rates) ih)

from_zero : (form : Form) (n : ℕ) (t columns rates : List ℕ) → 0 < n → length t ≡ n → RowsKept n 0 (0 ∷ t) columns rates → ((i : ℕ) → get_or rates i 0 < 4294967296)
    → RowsRead form (file_of form (rows n (0 ∷ t) columns rates)) n n 0 1 0 (0 ∷ t) columns rates
from_zero form n t columns rates o e f small =
    subst (λ (k : ℕ). RowsRead form (file_of form (rows n (0 ∷ t) columns rates)) n k 0 1 0 (0 ∷ t) columns rates) e
    (rows_forth form (file_of form (rows n (0 ∷ t) columns rates)) n o 0 0 t columns rates 1 f small (omega arith) refl)

-- the file of a chain in a form holds that chain, has that form, and is accepted
pub record Holds (form : Form) (bytes : List ℕ) (c : Rows) : Type 0 where
  pub chain_is : chain_of bytes ≡ c
  pub form_is : form_of bytes ≡ form
  pub accepted : file_checked zeros_taken bytes ≡ accepts (length c.columns)

pub file_forth : (form : Form) (c : Rows) → Sound c → ((i : ℕ) → get_or c.rates i 0 < 4294967296) → Holds form (file_of form c) c
file_forth form c g small =
    let s = g.starts_rule in
    let n = c.order in
    let q : c.starts ≡ 0 ∷ drop 1 c.starts =
    drop-cons c.starts 0 0 (omega (arith, s.count)) ∙ ap (λ (x : ℕ). x ∷ drop 1 c.starts) s.first in
    let f : RowsKept c.order 0 c.starts c.columns c.rates = rw s.first at (kept_from g c.order 0 (omega arith)) in
    let r : RowsRead form (file_of form c) c.order c.order 0 1 0 c.starts c.columns c.rates =
    subst (λ (l : List ℕ). RowsRead form (file_of form (rows n l c.columns c.rates)) n n 0 1 0 l c.columns c.rates) (sym q)
    (from_zero form n (drop 1 c.starts) c.columns c.rates (omega (arith, g.order.low)) (omega (arith, length-drop 1 c.starts, s.count))
    (subst (λ (l : List ℕ). RowsKept n 0 l c.columns c.rates) q f) small) in
    let o : order_of (file_of form c) ≡ c.order = order_in_lem c.order (omega (arith, g.order.low)) g.order.high form in
    let f' : form_of (file_of form c) ≡ form = form_in_lem c.order (omega (arith, g.order.low)) g.order.high form in
    record {
      chain_is = rw (o, f') (λ i. rows n (r.starts_are i) (r.columns_are i) (r.rates_are i));
      form_is = f';
      accepted =
          sym
          (file_rows zeros_taken (file_of form c) (omega arith) (rw o (order_of_lem n g.order)) (accepts (length c.columns))
          (rw (o, f') (ap accepts (sym (zero-add (length c.columns))) ∙ sym r.sound)));
    }
