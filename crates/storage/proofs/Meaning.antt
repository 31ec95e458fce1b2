-- The verdict of a reading is one whose facts hold. Assumes nothing.
use Prim.Native.Nat.{ℕ, zero, suc, ◌+◌, ◌*◌, ◌<◌, ◌≤◌}
use mathlib.Core.Bool.{Bool, true, false, cond, ◌||◌, false≢true}
use mathlib.Core.List.{List, [], ◌∷◌}
use mathlib.Core.Logic.{◌≢◌, ⊎_elim}
use mathlib.Core.Path.{◌≡◌, refl, sym, ap, ◌∙◌}
use native.Mathlib.Omega.{arith}
use native.Mathlib.Nat.{eq-or-lt_of_le, zero-add}
use native.Mathlib.Numerals.{add-one}
use lib.Dec.{eqb, leb, ltb}
use lib.ListN.{length, get_or, take}
use borrow.Author.Tests.{eqb-true, eqb-false, leb-true, leb-false, ltb-true, ltb-false}
use Rattle.basics.proofs.FirstLaws.{IsFirst, first_is}
use Rattle.basics.proofs.BoolLaws.{neither}
use Rattle.chain.specs.Rules.{order_sound}
use Rattle.chain.proofs.SoundLaws.{order_true, order_of_lem}
use Rattle.refusal.specs.Table.{Verdict, accepts, refuses, and_then}
use Rattle.layout.specs.declared.Form.{Form}
use Rattle.layout.specs.declared.Form.TheVariants.{One, Two}
use Rattle.layout.specs.Forms.{short, width}
use Rattle.layout.specs.Bytes.{map_bytes, stored_count, rate_at, rates_at, widths, columns_in, form_of, order_of, chain_of}
use Rattle.file_rules.specs.Sound.{zeros_refused, map_at, map_end, rates_begin, row_columns, row_marked, rate_count, SoundMap, SoundMark, SoundMarks, SoundRate, SoundRateAt, SoundTo}
use Rattle.file_rules.specs.Sound.{FileSays, order_absent, order_broken, map_cut, bit_broken, marks_cut, mark_loose, rates_cut, rate_zero, mark_wrong, left_over, all_sound}
use Rattle.file_rules.specs.Verdict.{bytes_refused, bad_bit, first_bad_bit, loose_bit, first_loose_bit, marks_checked, same, rates_checked, row_checked, rows_checked, file_checked}
use Rattle.file_rules.specs.Verdict.{room_to_read, read_verdict, ReadSays, bytes_broken, room_short, all_read}
use Rattle.file_rules.proofs.Checks.{good_bit, not_bad, tied_bit, not_loose, same_so, not_same, zero_passed, rate_cut, rate_marked, rate_whole, rate_none, SoundHere, RatesAre, each_more}
use Rattle.file_rules.proofs.Checks.{marks_absent, marks_loose, marks_tied, row_no_map, row_bad_bit, row_marks, row_rates_lem}
use Rattle.file_rules.proofs.Checks.{mark_wrong as wrong, marks_cut as second-cut}
use Rattle.file_rules.proofs.Answers.{has_room, room_is}
use Rattle.storage.proofs.Passes.{columns_more}

-- ---- the rates of a row: each is sound, or they are cut short, or one of them is 0, or the mark of one disagrees with its size

-- the k-th of them is there, and those before it are sound
record Met (zeros : Bool) (form : Form) (marks : ℕ → Bool) (bytes columns : List ℕ) (place k : ℕ) : Type 0 where
  inside : k < length columns
  there : place + widths marks (take (suc k) columns) ≤ length bytes
  before : (i : ℕ) → i < k → SoundHere zeros form marks bytes columns place i

data RatesSay (zeros : Bool) (form : Form) (marks : ℕ → Bool) (bytes : List ℕ) (row : ℕ) (columns : List ℕ) (place : ℕ) : Verdict ℕ → Type 0 where
  all_there : {next : ℕ} → RatesAre zeros form marks bytes columns place next → RatesSay zeros form marks bytes row columns place (accepts next)
  cut_short : length bytes < place + widths marks columns
      → ((k : ℕ) → k < length columns → place + widths marks (take (suc k) columns) ≤ length bytes → SoundHere zeros form marks bytes columns place k)
      → RatesSay zeros form marks bytes row columns place (bytes_refused 8 0 0)
  one_zero : {k : ℕ} → Met zeros form marks bytes columns place k → zeros ≡ zeros_refused → get_or (rates_at marks bytes columns place) k 0 ≡ 0
      → RatesSay zeros form marks bytes row columns place (bytes_refused 14 row (get_or columns k 0))
  one_wrong : {k : ℕ} → Met zeros form marks bytes columns place k → (zeros ≡ zeros_refused → 0 < get_or (rates_at marks bytes columns place) k 0)
      → marks (get_or columns k 0) ≢ short form (get_or (rates_at marks bytes columns place) k 0)
      → RatesSay zeros form marks bytes row columns place (bytes_refused 16 row (get_or columns k 0))

module _ (zeros : Bool) (form : Form) (marks : ℕ → Bool) (bytes : List ℕ) (row : ℕ) where
  -- one rate more, before those of which the verdict is known
  module _ (column : ℕ) (columns : List ℕ) (place : ℕ) (g : SoundRate zeros form (marks column) (rate_at (marks column) bytes place)) where
    met_more : (k : ℕ) → Met zeros form marks bytes columns (place + width (marks column)) k → Met zeros form marks bytes (column ∷ columns) place (suc k)
    met_more k m =
        record {
          inside = omega (arith, m.inside);
          there = omega (arith, m.there);
          before = each_more zeros form marks bytes row (λ i. i < suc k) column columns place g (λ i l. m.before i (omega arith));
        }

    rate_more : (v : Verdict ℕ) → RatesSay zeros form marks bytes row columns (place + width (marks column)) v → RatesSay zeros form marks bytes row (column ∷ columns) place v
    rate_more v (all_there {next} a) =
        all_there {next = next}
        (record {
          end = omega (arith, a.end);
          whole = a.whole;
          each = each_more zeros form marks bytes row (λ k. k < suc (length columns)) column columns place g (λ k l. a.each k (omega arith));
        })
    rate_more v (cut_short h a) =
        cut_short (omega arith) (cut_each (λ k l q. a k l q))
      where
        cut_each : ((k : ℕ) → k < length columns → place + width (marks column) + widths marks (take (suc k) columns) ≤ length bytes
            → SoundHere zeros form marks bytes columns (place + width (marks column)) k)
            → (k : ℕ) → k < suc (length columns) → place + widths marks (take (suc k) (column ∷ columns)) ≤ length bytes
            → SoundHere zeros form marks bytes (column ∷ columns) place k
        cut_each b zero l q = g
        cut_each b (suc k) l q = b k (omega arith) (omega arith)
    rate_more v (one_zero {k} m z e) = one_zero {k = suc k} (met_more k m) z e
    rate_more v (one_wrong {k} m z e) = one_wrong {k = suc k} (met_more k m) z e

  first_met : (column : ℕ) (columns : List ℕ) (place : ℕ) → place + width (marks column) ≤ length bytes → Met zeros form marks bytes (column ∷ columns) place 0
  first_met column columns place h = record { inside = omega arith; there = omega arith; before = λ i m. absurd (omega arith) }

  rates_say : (columns : List ℕ) (place : ℕ) → place ≤ length bytes → RatesSay zeros form marks bytes row columns place (rates_checked zeros form bytes row marks columns place)
  rates_say [] place l = all_there {next = place} (record { end = omega arith; whole = l; each = λ k h. absurd (omega arith) })
  rates_say (column ∷ columns) place l =
      at_bytes (λ h. rates_say columns (place + width (marks column)) h) (leb (place + width (marks column)) (length bytes)) refl
    where
      at_mark : (h : place + width (marks column) ≤ length bytes) → (zeros ≡ zeros_refused → 0 < rate_at (marks column) bytes place)
          → RatesSay zeros form marks bytes row columns (place + width (marks column)) (rates_checked zeros form bytes row marks columns (place + width (marks column)))
          → (b : Bool) → same (marks column) (short form (rate_at (marks column) bytes place)) ≡ b
          → RatesSay zeros form marks bytes row (column ∷ columns) place (rates_checked zeros form bytes row marks (column ∷ columns) place)
      at_mark h z later true t =
          let g : SoundRate zeros form (marks column) (rate_at (marks column) bytes place) = record { positive = z; as_marked = same_so (marks column) _ t } in
          rw (← rate_whole zeros form bytes row column (marks column) place h g) (rate_more column columns place g _ later)
      at_mark h z later false t =
          let w = not_same (marks column) (short form (rate_at (marks column) bytes place)) t in
          rw (← rate_marked zeros form bytes row column (marks column) place h z _
          (wrong form row column (marks column) (rate_at (marks column) bytes place) (place + width (marks column)) w row column refl refl))
          (one_wrong {k = 0} (first_met column columns place h) z w)

      at_rate : place + width (marks column) ≤ length bytes
          → RatesSay zeros form marks bytes row columns (place + width (marks column)) (rates_checked zeros form bytes row marks columns (place + width (marks column)))
          → (b : Bool) → (zeros || ltb 0 (rate_at (marks column) bytes place)) ≡ b
          → RatesSay zeros form marks bytes row (column ∷ columns) place (rates_checked zeros form bytes row marks (column ∷ columns) place)
      at_rate h later true t = at_mark h (zero_passed zeros (rate_at (marks column) bytes place) t) later _ refl
      at_rate h later false t =
          let f = neither zeros (ltb 0 (rate_at (marks column) bytes place)) t in
          let e : rate_at (marks column) bytes place ≤ 0 = ltb-false 0 (rate_at (marks column) bytes place) f.1 in
          rw (← rate_none zeros form bytes row column (marks column) place h f.0 e row column refl refl)
          (one_zero {k = 0} (first_met column columns place h) f.0 (omega arith))

      at_bytes : (place + width (marks column) ≤ length bytes
          → RatesSay zeros form marks bytes row columns (place + width (marks column)) (rates_checked zeros form bytes row marks columns (place + width (marks column))))
          → (b : Bool) → leb (place + width (marks column)) (length bytes) ≡ b
          → RatesSay zeros form marks bytes row (column ∷ columns) place (rates_checked zeros form bytes row marks (column ∷ columns) place)
      at_bytes later true t = at_rate (leb-true _ _ t) (later (leb-true _ _ t)) _ refl
      at_bytes later false t =
          let h = leb-false _ _ t in
          rw (← rate_cut zeros form bytes row column (marks column) place h) (cut_short (omega arith) (λ k m q. absurd (omega arith)))

-- ---- one row more

module _ (zeros : Bool) (bytes : List ℕ) (k row p : ℕ) (below : row < order_of bytes) (s : SoundTo zeros bytes row)
    (later : SoundTo zeros bytes (suc row) → map_at bytes (suc row) ≤ length bytes
    → FileSays zeros bytes (rows_checked zeros (form_of bytes) bytes (order_of bytes) k (row + 1) (map_at bytes (suc row)) (p + stored_count bytes (order_of bytes) (map_at bytes row)))) where
  -- the first bit that may not stand
  found : IsFirst (bad_bit bytes (order_of bytes) row (map_at bytes row)) 0 (8 * map_bytes (order_of bytes)) (first_bad_bit bytes (order_of bytes) row (map_at bytes row))
  found = first_is (bad_bit bytes (order_of bytes) row (map_at bytes row)) 0 (8 * map_bytes (order_of bytes)) (omega arith)

  -- the check of this row, and of those after it
  abbrev Says : Type 0
  Says = FileSays zeros bytes (rows_checked zeros (form_of bytes) bytes (order_of bytes) (suc k) row (map_at bytes row) p)

  row_says : Says
  row_says = at_map (leb (map_end bytes row) (length bytes)) refl
    where
      -- the row is sound, and so are those before it
      on : SoundMap bytes row → SoundMarks bytes row → map_at bytes (suc row) ≤ length bytes
          → ((k : ℕ) → k < rate_count bytes row → SoundRateAt zeros bytes row k) → SoundTo zeros bytes (suc row)
      on g m h a =
          record {
            some = s.some;
            order = s.order;
            rows = λ i q.
                ⊎_elim (λ z. let z' : i ≡ row = omega arith in rw z' (record { map = g; marks = m; rates = h; each = a })) (λ z. s.rows i (omega arith)) (eq-or-lt_of_le q);
          }

      at_rates : SoundMap bytes row → SoundMarks bytes row → 8 * map_bytes (order_of bytes) ≤ first_bad_bit bytes (order_of bytes) row (map_at bytes row)
          → marks_checked (form_of bytes) bytes (order_of bytes) row (map_at bytes row) ≡ accepts (rates_begin bytes row) → (v : Verdict ℕ)
          → RatesSay zeros (form_of bytes) (row_marked bytes row) bytes row (row_columns bytes row) (rates_begin bytes row) v
          → v ≡ rates_checked zeros (form_of bytes) bytes row (row_marked bytes row) (row_columns bytes row) (rates_begin bytes row)
          → Says
      at_rates g m q c v (all_there a) e =
          let h : map_at bytes (suc row) ≤ length bytes = omega (arith, a.end, a.whole) in
          let r : accepts (map_at bytes (suc row)) ≡ row_checked zeros (form_of bytes) bytes (order_of bytes) row (map_at bytes row) =
          row_rates_lem zeros (form_of bytes) bytes (order_of bytes) row (map_at bytes row) g.there _ refl q _ c _ (ap accepts (sym a.end) ∙ e) in
          rw (← r) (later (on g m h a.each) h)
      at_rates g m q c v (cut_short h a) e =
          rw (← row_rates_lem zeros (form_of bytes) bytes (order_of bytes) row (map_at bytes row) g.there _ refl q _ c _ e) (rates_cut below s g m h a)
      at_rates g m q c v (one_zero d z h) e =
          rw (← row_rates_lem zeros (form_of bytes) bytes (order_of bytes) row (map_at bytes row) g.there _ refl q _ c _ e)
          (rate_zero below s g m (record { inside = d.inside; there = d.there; before = d.before }) z h)
      at_rates g m q c v (one_wrong d z h) e =
          rw (← row_rates_lem zeros (form_of bytes) bytes (order_of bytes) row (map_at bytes row) g.there _ refl q _ c _ e)
          (mark_wrong below s g m (record { inside = d.inside; there = d.there; before = d.before }) z h)

      -- the second map
      at_marks : SoundMap bytes row → 8 * map_bytes (order_of bytes) ≤ first_bad_bit bytes (order_of bytes) row (map_at bytes row) → (f : Form) → form_of bytes ≡ f → Says
      at_marks g q One f =
          let w : rates_begin bytes row ≤ length bytes = rw f g.there in
          at_rates g (record { there = w; bits = λ j l t. absurd (false≢true (rw f at t)) }) q
          (sym (marks_absent (form_of bytes) bytes (order_of bytes) row (map_at bytes row) f) ∙ rw f) _ (rates_say zeros (form_of bytes) (row_marked bytes row) bytes row _ _ w) refl
      at_marks g q Two f = at_second (leb (map_at bytes row + (map_bytes (order_of bytes) + map_bytes (order_of bytes))) (length bytes)) refl
        where
          loose : IsFirst (loose_bit bytes (order_of bytes) (map_at bytes row)) 0 (8 * map_bytes (order_of bytes)) (first_loose_bit bytes (order_of bytes) (map_at bytes row))
          loose = first_is (loose_bit bytes (order_of bytes) (map_at bytes row)) 0 (8 * map_bytes (order_of bytes)) (omega arith)

          tied : (j : ℕ) → j < first_loose_bit bytes (order_of bytes) (map_at bytes row) → SoundMark bytes row j
          tied j l = rw f (tied_bit bytes (order_of bytes) (map_at bytes row) j (loose.before j (omega arith) l))

          begins : rates_begin bytes row ≡ map_at bytes row + (map_bytes (order_of bytes) + map_bytes (order_of bytes))
          begins = rw f

          at_loose : map_at bytes row + (map_bytes (order_of bytes) + map_bytes (order_of bytes)) ≤ length bytes → (b : Bool)
              → ltb (first_loose_bit bytes (order_of bytes) (map_at bytes row)) (8 * map_bytes (order_of bytes)) ≡ b → Says
          at_loose h true t =
              let l = ltb-true _ _ t in
              let bad : SoundMark bytes row (first_loose_bit bytes (order_of bytes) (map_at bytes row)) → ⊥ =
              λ x. false≢true (sym (not_loose bytes (order_of bytes) (map_at bytes row) _ (rw f at x)) ∙ loose.found l) in
              rw (← row_marks zeros (form_of bytes) bytes (order_of bytes) row (map_at bytes row) g.there _ refl q _ _
              (sym (marks_loose (form_of bytes) bytes (order_of bytes) row (map_at bytes row) f h _ refl l row refl)))
              (mark_loose below s g (record { there = rw begins h; inside = l; broken = bad; before = tied }))
          at_loose h false t =
              let l = ltb-false _ _ t in
              let w : rates_begin bytes row ≤ length bytes = rw begins h in
              at_rates g (record { there = w; bits = λ j b. tied j (omega arith) }) q
              (sym (marks_tied (form_of bytes) bytes (order_of bytes) row (map_at bytes row) f h _ refl l) ∙ ap accepts (sym begins)) _
              (rates_say zeros (form_of bytes) (row_marked bytes row) bytes row _ _ w) refl

          at_second : (b : Bool) → leb (map_at bytes row + (map_bytes (order_of bytes) + map_bytes (order_of bytes))) (length bytes) ≡ b → Says
          at_second true t = at_loose (leb-true _ _ t) _ refl
          at_second false t =
              let h = leb-false _ _ t in
              rw (← row_marks zeros (form_of bytes) bytes (order_of bytes) row (map_at bytes row) g.there _ refl q _ _
              (sym (second-cut (form_of bytes) bytes (order_of bytes) row (map_at bytes row) f h)))
              (marks_cut below s g (rw begins h))

      at_bits : map_end bytes row ≤ length bytes → (b : Bool)
          → ltb (first_bad_bit bytes (order_of bytes) row (map_at bytes row)) (8 * map_bytes (order_of bytes)) ≡ b → Says
      at_bits h true t =
          let l = ltb-true _ _ t in
          rw (← row_bad_bit zeros (form_of bytes) bytes (order_of bytes) row (map_at bytes row) h _ refl l)
          (bit_broken below s
          (record {
            there = h;
            inside = l;
            broken = λ g. false≢true (sym (not_bad bytes (order_of bytes) row (map_at bytes row) _ g) ∙ found.found l);
            before = λ j q. good_bit bytes (order_of bytes) row (map_at bytes row) j (found.before j (omega arith) q);
          }))
      at_bits h false t =
          let l = ltb-false _ _ t in
          at_marks (record { there = h; bits = λ j q. good_bit bytes (order_of bytes) row (map_at bytes row) j (found.before j (omega arith) (omega arith)) }) l _ refl

      at_map : (b : Bool) → leb (map_end bytes row) (length bytes) ≡ b → Says
      at_map true t = at_bits (leb-true _ _ t) _ refl
      at_map false t =
          let h = leb-false _ _ t in
          rw (← row_no_map zeros (form_of bytes) bytes (order_of bytes) row (map_at bytes row) h) (map_cut below s h)

-- ---- all rows

module _ (zeros : Bool) (bytes : List ℕ) where
  rows_say : (k row p : ℕ) → row + k ≡ order_of bytes → SoundTo zeros bytes row → map_at bytes row ≤ length bytes
      → p + length (columns_in (form_of bytes) bytes (order_of bytes) k (map_at bytes row)) ≡ length (chain_of bytes).columns
      → FileSays zeros bytes (rows_checked zeros (form_of bytes) bytes (order_of bytes) k row (map_at bytes row) p)
  rows_say zero row p e s l m = go (eqb (map_at bytes row) (length bytes)) refl
    where
      last : row ≡ order_of bytes
      last = omega arith

      count : p ≡ length (chain_of bytes).columns
      count = omega (arith, m)

      go : (b : Bool) → eqb (map_at bytes row) (length bytes) ≡ b → FileSays zeros bytes (cond b (accepts p) (bytes_refused 10 0 0))
      go true t =
          let q : map_at bytes row ≡ length bytes = eqb-true (map_at bytes row) (length bytes) t in
          rw count (all_sound (rw last at s) (rw last at q))
      go false t =
          let q : map_at bytes row < length bytes = ⊎_elim (λ z. absurd (eqb-false (map_at bytes row) (length bytes) t z)) (λ z. z) (eq-or-lt_of_le l) in
          left_over (rw last at s) (rw last at q)
  rows_say (suc k) row p e s l m =
      row_says zeros bytes k row p (omega arith) s
      (λ g h.
      rw (add-one row)
      (rows_say k (suc row) (p + stored_count bytes (order_of bytes) (map_at bytes row)) (omega arith) g h
      (omega (arith, m, columns_more (form_of bytes) bytes (order_of bytes) k (map_at bytes row)))))

  pub file_says : FileSays zeros bytes (file_checked zeros bytes)
  unfolding file_checked
  file_says = at_bytes (ltb 0 (length bytes)) refl
    where
      at_order : 0 < length bytes → (b : Bool) → order_sound (order_of bytes) ≡ b
          → FileSays zeros bytes (cond b (rows_checked zeros (form_of bytes) bytes (order_of bytes) (order_of bytes) 0 1 0) (bytes_refused 1 0 0))
      at_order l true t =
          rows_say (order_of bytes) 0 0 (zero-add (order_of bytes)) (record { some = l; order = order_true _ t; rows = λ i q. absurd (omega arith) }) l
          (zero-add (length (chain_of bytes).columns))
      at_order l false t = order_broken l (λ o. false≢true (sym t ∙ order_of_lem _ o))

      at_bytes : (b : Bool) → ltb 0 (length bytes) ≡ b
          → FileSays zeros bytes
          (cond b (cond (order_sound (order_of bytes)) (rows_checked zeros (form_of bytes) bytes (order_of bytes) (order_of bytes) 0 1 0) (bytes_refused 1 0 0)) (bytes_refused 8 0 0))
      at_bytes true t = at_order (ltb-true _ _ t) _ refl
      at_bytes false t = order_absent (omega (arith, ltb-false 0 (length bytes) t))

  -- ---- and the room

  pub read_says : (starts columns rates : ℕ) → ReadSays zeros bytes starts columns rates (read_verdict zeros bytes starts columns rates)
  unfolding read_verdict
  read_says starts columns rates = go (file_checked zeros bytes) file_says
    where
      at_room : (e : ℕ) → FileSays zeros bytes (accepts e) → (b : Bool) → room_to_read (order_of bytes) e starts columns rates ≡ b
          → ReadSays zeros bytes starts columns rates (cond b (accepts (order_of bytes, e, form_of bytes)) (bytes_refused 5 0 0))
      at_room e f true t = all_read f (has_room _ _ _ _ _ t)
      at_room e f false t = room_short f (λ h. false≢true (sym t ∙ room_is _ _ _ _ _ h))

      go : (v : Verdict ℕ) → FileSays zeros bytes v
          → ReadSays zeros bytes starts columns rates
          (and_then v (λ e. cond (room_to_read (order_of bytes) e starts columns rates) (accepts (order_of bytes, e, form_of bytes)) (bytes_refused 5 0 0)))
      go (accepts e) f = at_room e f _ refl
      go (refuses side line) f = bytes_broken f
