-- One turn of each check of the first pass, and what an accepted row, or file, gives. Assumes nothing.
use Prim.Native.Nat.{ℕ, zero, suc, ◌+◌, ◌-◌, ◌*◌, ◌<◌, ◌≤◌}
use mathlib.Core.Bool.{Bool, true, false, cond, ◌||◌, true≢false}
use mathlib.Core.List.{List, [], ◌∷◌}
use mathlib.Core.Logic.{◌≢◌}
use mathlib.Core.Path.{◌≡◌, refl, sym, ap, ◌∙◌}
use native.Mathlib.Omega.{arith}
use lib.Dec.{eqb, leb, ltb}
use lib.ListN.{length, get_or}
use borrow.Author.Tests.{leb-true, leb-false, le-leb, lt-leb, lt-ltb, le-ltb, ltb-true, ltb-false, eqb-false, eq-eqb, ne_eqb}
use Rattle.basics.proofs.BoolLaws.{by_true, by_false, neither, or_no}
use Rattle.refusal.specs.Table.{Verdict, accepts, refuses, Side}
use Rattle.refusal.specs.declared.Line.{Line}
use Rattle.layout.specs.declared.Form.{Form}
use Rattle.layout.specs.declared.Form.TheVariants.{One, Two}
use Rattle.layout.specs.Forms.{short, width}
use Rattle.layout.specs.Bytes.{map_bytes, maps_of, bit_at, marked, columns_from, stored_columns, stored_count, rate_at, rates_at, widths, row_end}
use Rattle.file_rules.specs.Sound.{zeros_taken, zeros_refused, SoundRate}
use Rattle.file_rules.specs.Verdict.{bytes_refused, bad_bit, first_bad_bit, loose_bit, first_loose_bit, marks_checked, same, mark_checked, rate_checked, rates_checked, row_checked, rows_checked}
use Rattle.refusal.proofs.VerdictLaws.{accepted_if, accepted_unless, accepted_then}
use Rattle.layout.proofs.Columns.{one_more, columns_hit, columns_miss}
use Rattle.layout.proofs.Rates.{MarkedBy, none, more, widths_low, maps_low}

-- ---- a bit that may not stand

module _ (bytes : List ℕ) (n row map j : ℕ) where
  -- a bit that is not bad is a column if it stands, and the other way round
  pub good_bit : bad_bit bytes n row map j ≡ false → bit_at bytes map j ≡ true → (j < n) × (j ≢ row)
  good_bit h t = let f = neither (eqb j row) (leb n j) (rw t at h) in (leb-false n j f.1, eqb-false j row f.0)

  pub not_bad : (bit_at bytes map j ≡ true → (j < n) × (j ≢ row)) → bad_bit bytes n row map j ≡ false
  not_bad s = go (bit_at bytes map j) refl
    where
      go : (b : Bool) → bit_at bytes map j ≡ b → bad_bit bytes n row map j ≡ false
      go false t = rw t
      go true t = let f = s t in rw t (or_no (eqb j row) (leb n j) (ne_eqb j row f.1) (lt-leb n j f.0))

-- ---- a bit of the second map

module _ (bytes : List ℕ) (n map j : ℕ) where
  -- a bit that is not loose marks a column of the row, and the other way round
  pub tied_bit : loose_bit bytes n map j ≡ false → bit_at bytes (map + map_bytes n) j ≡ true → bit_at bytes map j ≡ true
  tied_bit h t = go (bit_at bytes map j) refl
    where
      go : (b : Bool) → bit_at bytes map j ≡ b → bit_at bytes map j ≡ true
      go true u = u
      go false u = absurd (true≢false (rw (t, u) at h))

  pub not_loose : (bit_at bytes (map + map_bytes n) j ≡ true → bit_at bytes map j ≡ true) → loose_bit bytes n map j ≡ false
  not_loose s = go (bit_at bytes (map + map_bytes n) j) refl
    where
      go : (b : Bool) → bit_at bytes (map + map_bytes n) j ≡ b → loose_bit bytes n map j ≡ false
      go true t = rw (t, s t)
      go false t = rw t

-- ---- a rate

pub same_is : (a b : Bool) → a ≡ b → same a b ≡ true
same_is true b e = sym e
same_is false b e = rw (← e)

pub same_so : (a b : Bool) → same a b ≡ true → a ≡ b
same_so true b e = sym e
same_so false true e = absurd (true≢false (sym e))
same_so false false e = refl

pub same_not : (a b : Bool) → (a ≡ b → ⊥) → same a b ≡ false
same_not true true e = absurd (e refl)
same_not true false e = refl
same_not false true e = refl
same_not false false e = absurd (e refl)

pub not_same : (a b : Bool) → same a b ≡ false → a ≢ b
not_same a b e q = true≢false (sym (same_is a b q) ∙ e)

module _ (form : Form) (row column : ℕ) (mark : Bool) (rate next : ℕ) where
  pub mark_right : mark ≡ short form rate → accepts next ≡ mark_checked form row column mark rate next
  unfolding mark_checked
  mark_right e = by_true _ _ (same_is mark (short form rate) e) refl

  -- with the two places that are named
  pub mark_wrong : (mark ≡ short form rate → ⊥) → (i j : ℕ) → i ≡ row → j ≡ column → bytes_refused 16 i j ≡ mark_checked form row column mark rate next
  unfolding mark_checked
  mark_wrong e i j q q' = by_false _ _ (same_not mark (short form rate) e) (rw (q, q'))

-- the test for a rate of 0
zero_passes : (zeros : Bool) (rate : ℕ) → (zeros ≡ zeros_refused → 0 < rate) → (zeros || ltb 0 rate) ≡ true
zero_passes true rate h = refl
zero_passes false rate h = lt-ltb 0 rate (h refl)

pub zero_passed : (zeros : Bool) (rate : ℕ) → (zeros || ltb 0 rate) ≡ true → zeros ≡ zeros_refused → 0 < rate
zero_passed true rate h z = absurd (true≢false z)
zero_passed false rate h z = ltb-true 0 rate h

module _ (zeros : Bool) (form : Form) (bytes : List ℕ) (row column : ℕ) (mark : Bool) (place : ℕ) where
  pub rate_cut : length bytes < place + width mark → bytes_refused 8 0 0 ≡ rate_checked zeros form bytes row column mark place
  unfolding rate_checked
  rate_cut h = by_false _ _ (lt-leb _ _ h) refl

  module _ (h : place + width mark ≤ length bytes) where
    -- past 14, the mark decides
    pub rate_marked : (zeros ≡ zeros_refused → 0 < rate_at mark bytes place) → (v : Verdict ℕ)
        → v ≡ mark_checked form row column mark (rate_at mark bytes place) (place + width mark) → v ≡ rate_checked zeros form bytes row column mark place
    unfolding rate_checked
    rate_marked g v e = by_true _ _ (le-leb _ _ h) (by_true _ _ (zero_passes zeros (rate_at mark bytes place) g) e)

    pub rate_whole : SoundRate zeros form mark (rate_at mark bytes place) → accepts (place + width mark) ≡ rate_checked zeros form bytes row column mark place
    rate_whole g = rate_marked g.positive _ (mark_right form row column mark (rate_at mark bytes place) (place + width mark) g.as_marked)

    -- with the two places that are named
    pub rate_none : zeros ≡ zeros_refused → rate_at mark bytes place ≤ 0 → (i j : ℕ) → i ≡ row → j ≡ column
        → bytes_refused 14 i j ≡ rate_checked zeros form bytes row column mark place
    unfolding rate_checked
    rate_none z e i j q q' = by_true _ _ (le-leb _ _ h) (by_false _ _ (or_no zeros _ z (le-ltb 0 (rate_at mark bytes place) e)) (rw (q, q')))

  pub record RateIs (next : ℕ) : Type 0 where
    pub end : next ≡ place + width mark
    pub whole : next ≤ length bytes
    pub sound : SoundRate zeros form mark (rate_at mark bytes place)

  pub rate_is : (next : ℕ) → rate_checked zeros form bytes row column mark place ≡ accepts next → RateIs next
  unfolding rate_checked mark_checked
  rate_is next h =
      let t = accepted_if (leb (place + width mark) (length bytes)) _ _ _ next h in
      let u = accepted_if (zeros || ltb 0 (rate_at mark bytes place)) _ _ _ next t.1 in
      let w = accepted_if (same mark (short form (rate_at mark bytes place))) _ _ _ next u.1 in
      let q : accepts (place + width mark) ≡ accepts next = w.1 in
      let q' : next ≡ place + width mark = cc in
      record {
        end = q';
        whole = rw q' (leb-true _ _ t.0);
        sound = record { positive = zero_passed zeros (rate_at mark bytes place) u.0; as_marked = same_so mark (short form (rate_at mark bytes place)) w.0 };
      }

-- ---- the rates of a row: those from column j on, read from a place on, give what all of them give

-- the check of all rates of a row
abbrev pub all_rates : Bool → Form → List ℕ → ℕ → ℕ → ℕ → Verdict ℕ
all_rates zeros form bytes n row map = rates_checked zeros form bytes row (marked form bytes n map) (stored_columns bytes n map) (map + maps_of form n)

pub record RatesLeft (zeros : Bool) (form : Form) (bytes : List ℕ) (n row map j place : ℕ) : Type 0 where
  pub turn : j ≤ n
  pub inside : place ≤ length bytes
  pub left : all_rates zeros form bytes n row map ≡ rates_checked zeros form bytes row (marked form bytes n map) (columns_from bytes n map j) place

module _ (zeros : Bool) (form : Form) (bytes : List ℕ) (n row map j place : ℕ) (r : RatesLeft zeros form bytes n row map j place) where
  module _ (l : j < n) where
    pub rates_miss : bit_at bytes map j ≡ false → (place' : ℕ) → place' ≡ place → RatesLeft zeros form bytes n row map (j + 1) place'
    rates_miss t place' q = rw q (record { turn = omega arith; inside = r.inside; left = r.left ∙ rw (columns_miss bytes n map j l t) })

    -- with the column whose rate was checked, and its mark
    module _ (t : bit_at bytes map j ≡ true) (column : ℕ) (e : column ≡ j) (mark : Bool) (m : mark ≡ marked form bytes n map j) where
      pub rates_hit : (next : ℕ) → rate_checked zeros form bytes row column mark place ≡ accepts next → (place' : ℕ) → place' ≡ next
          → RatesLeft zeros form bytes n row map (j + 1) place'
      rates_hit next h place' q =
          rw q
          (record {
            turn = omega arith;
            inside = (rate_is zeros form bytes row column mark place next h).whole;
            left = r.left ∙ rw (columns_hit bytes n map j l t, rw (e, m) at h);
          })

-- the k-th of the rates that are read for these columns from a place on, and its mark
abbrev pub SoundHere : Bool → Form → (ℕ → Bool) → List ℕ → List ℕ → ℕ → ℕ → Type 0
SoundHere zeros form marks bytes columns place k = SoundRate zeros form (marks (get_or columns k 0)) (get_or (rates_at marks bytes columns place) k 0)

-- accepted rates: all of them are there, and each is sound
pub record RatesAre (zeros : Bool) (form : Form) (marks : ℕ → Bool) (bytes columns : List ℕ) (place next : ℕ) : Type 0 where
  pub end : next ≡ place + widths marks columns
  pub whole : next ≤ length bytes
  pub each : (k : ℕ) → k < length columns → SoundHere zeros form marks bytes columns place k

module _ (zeros : Bool) (form : Form) (marks : ℕ → Bool) (bytes : List ℕ) (row : ℕ) where
  -- the first rate and those after it, as many as a test tells
  pub each_more : (test : ℕ → Type 0) (column : ℕ) (columns : List ℕ) (place : ℕ) → SoundRate zeros form (marks column) (rate_at (marks column) bytes place)
      → ((k : ℕ) → test (suc k) → SoundHere zeros form marks bytes columns (place + width (marks column)) k)
      → (k : ℕ) → test k → SoundHere zeros form marks bytes (column ∷ columns) place k
  each_more test column columns place g h zero t = g
  each_more test column columns place g h (suc k) t = h k t

  pub rates_are : (columns : List ℕ) (place next : ℕ) → place ≤ length bytes → rates_checked zeros form bytes row marks columns place ≡ accepts next
      → RatesAre zeros form marks bytes columns place next
  rates_are [] place next l h = let q : place ≡ next = cc in record { end = omega arith; whole = omega arith; each = λ k l. absurd (omega arith) }
  rates_are (column ∷ columns) place next l h =
      let (one, a, b) = accepted_then (rate_checked zeros form bytes row column (marks column) place) (λ next. rates_checked zeros form bytes row marks columns next) next h in
      let r = rate_is zeros form bytes row column (marks column) place one a in
      let rest = rw r.end at (rates_are columns one next r.whole b) in
      record {
        end = omega (arith, rest.end);
        whole = rest.whole;
        each = each_more (λ k. k < suc (length columns)) column columns place r.sound (λ k l. rest.each k (omega arith));
      }

  pub rates_sound : (columns : List ℕ) (place : ℕ) → place + widths marks columns ≤ length bytes
      → ((k : ℕ) → k < length columns → SoundHere zeros form marks bytes columns place k)
      → rates_checked zeros form bytes row marks columns place ≡ accepts (place + widths marks columns)
  rates_sound [] place h g = ap accepts (omega arith)
  rates_sound (column ∷ columns) place h g =
      rw (sym (rate_whole zeros form bytes row column (marks column) place (omega arith) (g 0 (omega arith))))
      (rates_sound columns (place + width (marks column)) (omega arith) (λ k l. g (suc k) (omega arith)) ∙ ap accepts (omega arith))

-- sound rates are marked as they are to be
pub rates_marked : (zeros : Bool) (form : Form) (marks : ℕ → Bool) (bytes columns : List ℕ) (place : ℕ)
    → ((k : ℕ) → k < length columns → SoundHere zeros form marks bytes columns place k) → MarkedBy form marks columns (rates_at marks bytes columns place)
rates_marked zeros form marks bytes [] place g = none
rates_marked zeros form marks bytes (column ∷ columns) place g =
    more (g 0 (omega arith)).as_marked (rates_marked zeros form marks bytes columns (place + width (marks column)) (λ k l. g (suc k) (omega arith)))

-- and where rates of 0 are taken, rates marked so are sound
pub marked_here : (form : Form) (marks : ℕ → Bool) (bytes columns : List ℕ) (place : ℕ) → MarkedBy form marks columns (rates_at marks bytes columns place)
    → (k : ℕ) → k < length columns → SoundHere zeros_taken form marks bytes columns place k
marked_here form marks bytes [] place m k l = absurd (omega arith)
marked_here form marks bytes (column ∷ columns) place (more e m) zero l = record { positive = λ z. absurd (true≢false z); as_marked = e }
marked_here form marks bytes (column ∷ columns) place (more e m) (suc k) l = marked_here form marks bytes columns (place + width (marks column)) m k (omega arith)

-- ---- the second map

module _ (form : Form) (bytes : List ℕ) (n row map : ℕ) where
  pub marks_absent : form ≡ One → accepts (map + map_bytes n) ≡ marks_checked form bytes n row map
  unfolding marks_checked
  marks_absent f = rw f

  module _ (f : form ≡ Two) where
    pub marks_cut : length bytes < map + (map_bytes n + map_bytes n) → bytes_refused 8 0 0 ≡ marks_checked form bytes n row map
    unfolding marks_checked
    marks_cut h = rw f (by_false _ _ (lt-leb _ _ h) refl)

    module _ (h : map + (map_bytes n + map_bytes n) ≤ length bytes) (bit : ℕ) (e : bit ≡ first_loose_bit bytes n map) where
      pub marks_loose : bit < 8 * map_bytes n → (i : ℕ) → i ≡ row → bytes_refused 16 i bit ≡ marks_checked form bytes n row map
      unfolding marks_checked
      marks_loose q i r =
          rw f (by_true _ _ (le-leb _ _ h) (by_true _ _ (lt-ltb _ _ (rw e at q)) (rw (r, e))))

      pub marks_tied : 8 * map_bytes n ≤ bit → accepts (map + (map_bytes n + map_bytes n)) ≡ marks_checked form bytes n row map
      unfolding marks_checked
      marks_tied q = rw f (by_true _ _ (le-leb _ _ h) (by_false _ _ (le-ltb _ _ (rw e at q)) refl))

module _ (bytes : List ℕ) (n row map : ℕ) where
  -- accepted: the second map is there, and none of its bits is loose
  pub record MarksAre (form : Form) (next : ℕ) : Type 0 where
    pub end : next ≡ map + maps_of form n
    pub whole : map + map_bytes n ≤ length bytes → map + maps_of form n ≤ length bytes
    pub tied : form ≡ Two → ltb (first_loose_bit bytes n map) (8 * map_bytes n) ≡ false

  pub marks_are : (form : Form) (next : ℕ) → marks_checked form bytes n row map ≡ accepts next → MarksAre form next
  unfolding marks_checked
  marks_are One next h =
      let q : next ≡ map + map_bytes n = cc in
      record { end = q; whole = λ l. l; tied = λ e. let z : ◌≡◌ {A = ℕ} 0 1 = cc in absurd (omega arith) }
  marks_are Two next h =
      let a = accepted_if (leb (map + (map_bytes n + map_bytes n)) (length bytes)) _ _ _ next h in
      let b = accepted_unless (ltb (first_loose_bit bytes n map) (8 * map_bytes n)) _ _ _ next a.1 in
      let e : accepts (map + (map_bytes n + map_bytes n)) ≡ accepts next = b.1 in
      let q : next ≡ map + (map_bytes n + map_bytes n) = cc in
      record { end = q; whole = λ l. leb-true _ _ a.0; tied = λ e. b.0 }

  -- and the other way round
  pub marks_whole : (form : Form) → map + maps_of form n ≤ length bytes → (form ≡ Two → ltb (first_loose_bit bytes n map) (8 * map_bytes n) ≡ false)
      → marks_checked form bytes n row map ≡ accepts (map + maps_of form n)
  unfolding marks_checked
  marks_whole One h t = refl
  marks_whole Two h t = sym (by_true _ _ (le-leb _ _ h) (by_false _ _ (t refl) refl))

-- ---- a row

module _ (zeros : Bool) (form : Form) (bytes : List ℕ) (n row map : ℕ) where
  pub row_no_map : length bytes < map + map_bytes n → bytes_refused 8 0 0 ≡ row_checked zeros form bytes n row map
  unfolding row_checked
  row_no_map h = by_false _ _ (lt-leb _ _ h) refl

  module _ (h : map + map_bytes n ≤ length bytes) (bit : ℕ) (e : bit ≡ first_bad_bit bytes n row map) where
    pub row_bad_bit : bit < 8 * map_bytes n → bytes_refused 9 row bit ≡ row_checked zeros form bytes n row map
    unfolding row_checked
    row_bad_bit q = by_true _ _ (le-leb _ _ h) (by_true _ _ (lt-ltb _ _ (rw e at q)) (ap (λ (x : ℕ). bytes_refused 9 row x) e))

    module _ (q : 8 * map_bytes n ≤ bit) where
      pub row_marks : (s : Side) (x : Line) → marks_checked form bytes n row map ≡ refuses s x → refuses s x ≡ row_checked zeros form bytes n row map
      unfolding row_checked
      row_marks s x m = by_true _ _ (le-leb _ _ h) (by_false _ _ (le-ltb _ _ (rw e at q)) (rw m))

      pub row_rates_lem : (next : ℕ) → marks_checked form bytes n row map ≡ accepts next → (v : Verdict ℕ) → v ≡ all_rates zeros form bytes n row map
          → v ≡ row_checked zeros form bytes n row map
      unfolding row_checked
      row_rates_lem next m v r =
          by_true _ _ (le-leb _ _ h) (by_false _ _ (le-ltb _ _ (rw e at q)) (rw (m, (marks_are bytes n row map form next m).end) r))

  -- an accepted row: no bad bit stands, no bit of the second map is loose, all of it is there, and each rate is sound
  pub record RowIs (next : ℕ) : Type 0 where
    pub end : next ≡ row_end form bytes n map
    pub whole : row_end form bytes n map ≤ length bytes
    pub clean : ltb (first_bad_bit bytes n row map) (8 * map_bytes n) ≡ false
    pub tied : form ≡ Two → ltb (first_loose_bit bytes n map) (8 * map_bytes n) ≡ false
    pub each : (k : ℕ) → k < stored_count bytes n map → SoundHere zeros form (marked form bytes n map) bytes (stored_columns bytes n map) (map + maps_of form n) k

  pub row_is : (next : ℕ) → row_checked zeros form bytes n row map ≡ accepts next → RowIs next
  unfolding row_checked
  row_is next h =
      let a = accepted_if (leb (map + map_bytes n) (length bytes)) _ _ _ next h in
      let b = accepted_unless (ltb (first_bad_bit bytes n row map) (8 * map_bytes n)) _ _ _ next a.1 in
      let (place, m, c) = accepted_then (marks_checked form bytes n row map)
      (λ place. rates_checked zeros form bytes row (marked form bytes n map) (stored_columns bytes n map) place) next b.1 in
      let t = marks_are bytes n row map form place m in
      let r = rates_are zeros form (marked form bytes n map) bytes row (stored_columns bytes n map) (map + maps_of form n) next (t.whole (leb-true _ _ a.0)) (rw t.end at c) in
      record { end = r.end; whole = omega (arith, r.end, r.whole); clean = b.0; tied = t.tied; each = r.each }

  -- and the other way round, by these rules or by others
  pub row_whole : row_end form bytes n map ≤ length bytes → ltb (first_bad_bit bytes n row map) (8 * map_bytes n) ≡ false
      → (form ≡ Two → ltb (first_loose_bit bytes n map) (8 * map_bytes n) ≡ false)
      → ((k : ℕ) → k < stored_count bytes n map → SoundHere zeros form (marked form bytes n map) bytes (stored_columns bytes n map) (map + maps_of form n) k)
      → row_checked zeros form bytes n row map ≡ accepts (row_end form bytes n map)
  row_whole w c t g =
      let low = maps_low form n in
      sym
      (row_rates_lem (omega arith) _ refl (ltb-false _ _ c) _ (marks_whole bytes n row map form (omega arith) t) _
      (sym (rates_sound zeros form (marked form bytes n map) bytes row (stored_columns bytes n map) (map + maps_of form n) w g)))

-- ---- all rows: those from a row on give what all of them give

pub record RowsLeft (zeros : Bool) (form : Form) (bytes : List ℕ) (n row map p : ℕ) : Type 0 where
  pub turn : row ≤ n
  pub inside : map ≤ length bytes
  pub few : p ≤ map
  pub left : rows_checked zeros form bytes n n 0 1 0 ≡ rows_checked zeros form bytes n (n - row) row map p

module _ (zeros : Bool) (form : Form) (bytes : List ℕ) (n row map p : ℕ) (r : RowsLeft zeros form bytes n row map p) where
  rows_last : n ≤ row → rows_checked zeros form bytes n n 0 1 0 ≡ cond (eqb map (length bytes)) (accepts p) (bytes_refused 10 0 0)
  rows_last h = let z : n - row ≡ 0 = omega arith in r.left ∙ rw z

  pub rows_extra : n ≤ row → (map ≡ length bytes → ⊥) → bytes_refused 10 0 0 ≡ rows_checked zeros form bytes n n 0 1 0
  rows_extra h q = sym (rows_last h ∙ rw (ne_eqb map (length bytes) q))

  pub rows_end : n ≤ row → map ≡ length bytes → accepts p ≡ rows_checked zeros form bytes n n 0 1 0
  rows_end h q = sym (rows_last h ∙ rw (eq-eqb map (length bytes) q))

  module _ (l : row < n) where
    pub rows_stop : (s : Side) (x : Line) → row_checked zeros form bytes n row map ≡ refuses s x → refuses s x ≡ rows_checked zeros form bytes n n 0 1 0
    rows_stop s x h = sym (r.left ∙ rw (one_more l, h))

    pub rows_more : (next : ℕ) → row_checked zeros form bytes n row map ≡ accepts next → (count : ℕ) → count ≡ stored_count bytes n map → RowsLeft zeros form bytes n (row + 1) next (p + count)
    rows_more next h count e =
        let i = row_is zeros form bytes n row map next h in
        record {
          turn = omega arith;
          inside = omega arith;
          few = omega (arith, r.few, i.end, widths_low (marked form bytes n map) (stored_columns bytes n map));
          left = r.left ∙ rw (one_more l, h, e);
        }

-- the first row of an accepted file, and the rest of it
pub record RowOfFile (zeros : Bool) (form : Form) (bytes : List ℕ) (n k row map p e : ℕ) : Type 0 where
  pub here : row_checked zeros form bytes n row map ≡ accepts (row_end form bytes n map)
  pub is : RowIs zeros form bytes n row map (row_end form bytes n map)
  pub rest : rows_checked zeros form bytes n k (row + 1) (row_end form bytes n map) (p + stored_count bytes n map) ≡ accepts e

pub row_of_file : (zeros : Bool) (form : Form) (bytes : List ℕ) (n k row map p e : ℕ) → rows_checked zeros form bytes n (suc k) row map p ≡ accepts e → RowOfFile zeros form bytes n k row map p e
row_of_file zeros form bytes n k row map p e h =
    let (next, a, b) = accepted_then (row_checked zeros form bytes n row map) (λ next. rows_checked zeros form bytes n k (row + 1) next (p + stored_count bytes n map)) e h in
    let q : next ≡ row_end form bytes n map = (row_is zeros form bytes n row map next a).end in
    let here : row_checked zeros form bytes n row map ≡ accepts (row_end form bytes n map) = rw q at a in
    record { here = here; is = row_is zeros form bytes n row map (row_end form bytes n map) here; rest = rw q at b }

-- the entries before a row are no more than all
pub rows_grow : (zeros : Bool) (form : Form) (bytes : List ℕ) (n k row map p e : ℕ) → rows_checked zeros form bytes n k row map p ≡ accepts e → p ≤ e
rows_grow zeros form bytes n zero row map p e h =
    let q : accepts p ≡ accepts e = (accepted_if (eqb map (length bytes)) _ _ _ e h).1 in
    let q' : p ≡ e = cc in
    omega arith
rows_grow zeros form bytes n (suc k) row map p e h =
    omega (arith, rows_grow zeros form bytes n k (row + 1) (row_end form bytes n map) (p + stored_count bytes n map) e (row_of_file zeros form bytes n k row map p e h).rest)
