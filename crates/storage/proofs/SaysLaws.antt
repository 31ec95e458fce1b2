-- A verdict on stored bytes, or on a chain to be written, whose facts hold is the verdict: `says` of the contracts of `read` and `write` leaves one
-- answer. Assumes nothing.
use mathlib.Core.Bool.{Bool, true, false, true≢false}
use mathlib.Core.List.{List, [], ◌∷◌}
use mathlib.Core.Path.{◌≡◌, refl, sym, ap, ◌∙◌}
use Prim.Native.Nat.{ℕ, zero, suc, ◌+◌, ◌-◌, ◌*◌, ◌<◌, ◌≤◌}
use native.Mathlib.Decide.{dec_le}
use native.Mathlib.Numerals.{add-one}
use native.Mathlib.Omega.{arith}
use borrow.Author.Tests.{le-leb, lt-leb, ltb-false}
use lib.Dec.{ltb}
use lib.ListN.{length, get_or, take}
use Rattle.basics.proofs.BoolLaws.{not_so, is_so}
use Rattle.basics.proofs.FirstLaws.{first_at, none_found}
use Rattle.refusal.specs.Table.{Verdict, Side, accepts, refuses}
use Rattle.refusal.specs.declared.Line.{Line}
use Rattle.chain.specs.Rows.{Rows}
use Rattle.chain.proofs.Reading.{says_checked, sound_accepted}
use Rattle.chain.proofs.SoundLaws.{order_true, order_of_lem}
use Rattle.layout.specs.declared.Form.{Form}
use Rattle.layout.specs.declared.Form.TheVariants.{One, Two}
use Rattle.layout.specs.Forms.{short, width}
use Rattle.layout.specs.Bytes.{map_bytes, maps_of, bit_at, marked, stored_count, rate_at, rates_at, widths, form_of, order_of}
use Rattle.file_rules.specs.Sound.{map_at, rates_begin, row_columns, row_marked, row_rates, SoundMap, SoundMarks, SoundRow, SoundTo, FirstBadBit, RateMet}
use Rattle.file_rules.specs.Sound.{FileSays, order_absent, order_broken, map_cut, bit_broken, marks_cut, mark_loose, rates_cut, rate_zero, mark_wrong, left_over, all_sound}
use Rattle.file_rules.specs.Verdict.{bytes_refused, bad_bit, first_bad_bit, loose_bit, first_loose_bit, marks_checked, rate_checked, rates_checked}
use Rattle.file_rules.specs.Verdict.{row_checked, file_checked, room_to_read, read_verdict, ReadSays, bytes_broken, room_short, all_read}
use Rattle.file_rules.proofs.Checks as checks
use Rattle.file_rules.proofs.Checks.{good_bit, not_bad, tied_bit, not_loose, rate_cut, rate_whole, rate_marked, rate_none, SoundHere, all_rates, marks_loose, marks_whole}
use Rattle.file_rules.proofs.Checks.{row_no_map, row_bad_bit, row_marks, row_rates_lem, row_whole, RowsLeft, rows_extra, rows_end, rows_stop, rows_more}
use Rattle.file_rules.proofs.Answers.{has_room, room_is, file_empty, file_order, file_rows}
use Rattle.file_rules.proofs.Readings.{read_no_room, read_room}
use Rattle.storage.specs.Writing.{write_verdict, WriteSays}
use Rattle.storage.specs.Writing as writing
use Rattle.storage.proofs.Passes.{file_entries}

module _ (zeros : Bool) (bytes : List ℕ) where
  -- ---- the rates of a row

  module _ (form : Form) (marks : ℕ → Bool) (row : ℕ) where
    -- all that are there are sound, and one is cut short
    rates_short : (columns : List ℕ) (place : ℕ) → length bytes < place + widths marks columns
        → ((k : ℕ) → k < length columns → place + widths marks (take (suc k) columns) ≤ length bytes → SoundHere zeros form marks bytes columns place k)
        → place ≤ length bytes → bytes_refused 8 0 0 ≡ rates_checked zeros form bytes row marks columns place
    rates_short [] place h g l = absurd (omega arith)
    rates_short (column ∷ columns) place h g l =
        go (rates_short columns (place + width (marks column)) (omega arith) (λ k m q. g (suc k) (omega arith) (omega arith)))
        (dec_le (place + width (marks column)) (length bytes))
      where
        go : (place + width (marks column) ≤ length bytes → bytes_refused 8 0 0 ≡ rates_checked zeros form bytes row marks columns (place + width (marks column)))
            → Dec (place + width (marks column) ≤ length bytes) → bytes_refused 8 0 0 ≡ rates_checked zeros form bytes row marks (column ∷ columns) place
        go later (yes q) = rw (← rate_whole zeros form bytes row column (marks column) place q (g 0 (omega arith) (omega arith))) (later q)
        go later (no q) = rw (← rate_cut zeros form bytes row column (marks column) place (omega arith))

    -- the k-th is there and refused, and those before it are sound
    rates_refused : (side : Side) (line : Line) (columns : List ℕ) (place k : ℕ) → k < length columns
        → place + widths marks (take (suc k) columns) ≤ length bytes → ((i : ℕ) → i < k → SoundHere zeros form marks bytes columns place i)
        → ((p : ℕ) → p + width (marks (get_or columns k 0)) ≤ length bytes
        → rate_at (marks (get_or columns k 0)) bytes p ≡ get_or (rates_at marks bytes columns place) k 0
        → refuses side line ≡ rate_checked zeros form bytes row (get_or columns k 0) (marks (get_or columns k 0)) p)
        → refuses side line ≡ rates_checked zeros form bytes row marks columns place
    rates_refused side line [] place k l h g f = absurd (omega arith)
    rates_refused side line (column ∷ columns) place zero l h g f = rw (← f place (omega arith) refl)
    rates_refused side line (column ∷ columns) place (suc k) l h g f =
        rw (← rate_whole zeros form bytes row column (marks column) place (omega arith) (g 0 (omega arith)))
        (rates_refused side line columns (place + width (marks column)) k (omega arith) (omega arith) (λ i m. g (suc i) (omega arith)) f)

  -- ---- the bits of a row's maps

  abbrev n : ℕ
  n = order_of bytes

  -- in a sound map there is no bad bit, and the first bad bit is the first
  clean : (row : ℕ) → SoundMap bytes row → ltb (first_bad_bit bytes n row (map_at bytes row)) (8 * map_bytes n) ≡ false
  clean row g = none_found (bad_bit bytes n row (map_at bytes row)) (8 * map_bytes n) (λ j l. not_bad bytes n row (map_at bytes row) j (g.bits j l))

  first_bad_lem : (row bit : ℕ) → FirstBadBit bytes row bit → bit ≡ first_bad_bit bytes n row (map_at bytes row)
  first_bad_lem row bit f =
      sym (first_at (bad_bit bytes n row (map_at bytes row)) (8 * map_bytes n) bit f.inside
      (is_so _ (λ h. f.broken (good_bit bytes n row (map_at bytes row) bit h))) (λ j l. not_bad bytes n row (map_at bytes row) j (f.before j l)))

  -- the same of the second map, in form 2
  all_tied : (map : ℕ) → ((j : ℕ) → j < 8 * map_bytes n → marked Two bytes n map j ≡ true → bit_at bytes map j ≡ true)
      → ltb (first_loose_bit bytes n map) (8 * map_bytes n) ≡ false
  all_tied map g = none_found (loose_bit bytes n map) (8 * map_bytes n) (λ j l. not_loose bytes n map j (g j l))

  first_loose : (map bit : ℕ) → bit < 8 * map_bytes n → ((marked Two bytes n map bit ≡ true → bit_at bytes map bit ≡ true) → ⊥)
      → ((j : ℕ) → j < bit → marked Two bytes n map j ≡ true → bit_at bytes map j ≡ true) → bit ≡ first_loose_bit bytes n map
  first_loose map bit inside broken before =
      sym (first_at (loose_bit bytes n map) (8 * map_bytes n) bit inside (is_so _ (λ h. broken (tied_bit bytes n map bit h)))
      (λ j l. not_loose bytes n map j (before j l)))

  -- ---- the second map of a row

  tied : (row : ℕ) → SoundMarks bytes row → form_of bytes ≡ Two → ltb (first_loose_bit bytes n (map_at bytes row)) (8 * map_bytes n) ≡ false
  tied row g e = all_tied (map_at bytes row) (λ j l. rw e at (g.bits j l))

  marks_sound : (row : ℕ) → SoundMarks bytes row → marks_checked (form_of bytes) bytes n row (map_at bytes row) ≡ accepts (rates_begin bytes row)
  marks_sound row g = marks_whole bytes n row (map_at bytes row) (form_of bytes) g.there (tied row g)

  -- form 1 has no second map that could be cut short or have a bit
  cut_marks : (form : Form) (row map : ℕ) → map + map_bytes n ≤ length bytes → length bytes < map + maps_of form n
      → marks_checked form bytes n row map ≡ bytes_refused 8 0 0
  cut_marks One row map h l = absurd (omega arith)
  cut_marks Two row map h l = sym (checks.marks_cut Two bytes n row map refl l)

  loose_marks : (form : Form) (row map bit : ℕ) → map + maps_of form n ≤ length bytes → bit < 8 * map_bytes n
      → ((marked form bytes n map bit ≡ true → bit_at bytes map bit ≡ true) → ⊥)
      → ((j : ℕ) → j < bit → marked form bytes n map j ≡ true → bit_at bytes map j ≡ true) → marks_checked form bytes n row map ≡ bytes_refused 16 row bit
  loose_marks One row map bit h l broken before = absurd (broken (λ t. absurd (true≢false (sym t))))
  loose_marks Two row map bit h l broken before = sym (marks_loose Two bytes n row map refl h bit (first_loose map bit l broken before) l row refl)

  -- ---- a row

  row_sound : (row : ℕ) → SoundRow zeros bytes row → row_checked zeros (form_of bytes) bytes n row (map_at bytes row) ≡ accepts (map_at bytes (suc row))
  row_sound row g =
      row_whole zeros (form_of bytes) bytes n row (map_at bytes row) g.rates (clean row g.map) (tied row g.marks) g.each

  -- the rates of a row whose maps are sound decide
  by_rates : (row : ℕ) → SoundMap bytes row → SoundMarks bytes row → (v : Verdict ℕ) → v ≡ all_rates zeros (form_of bytes) bytes n row (map_at bytes row)
      → v ≡ row_checked zeros (form_of bytes) bytes n row (map_at bytes row)
  by_rates row g m = row_rates_lem zeros (form_of bytes) bytes n row (map_at bytes row) g.there _ refl (ltb-false _ _ (clean row g)) _ (marks_sound row m)

  -- so does the second map of one whose first is sound
  by_marks : (row : ℕ) → SoundMap bytes row → (side : Side) (line : Line) → marks_checked (form_of bytes) bytes n row (map_at bytes row) ≡ refuses side line
      → refuses side line ≡ row_checked zeros (form_of bytes) bytes n row (map_at bytes row)
  by_marks row g = row_marks zeros (form_of bytes) bytes n row (map_at bytes row) g.there _ refl (ltb-false _ _ (clean row g))

  -- a rate that is met and refused
  by_rate : (row k : ℕ) → SoundMap bytes row → SoundMarks bytes row → RateMet zeros bytes row k → (side : Side) (line : Line)
      → ((p : ℕ) → p + width (row_marked bytes row (get_or (row_columns bytes row) k 0)) ≤ length bytes
      → rate_at (row_marked bytes row (get_or (row_columns bytes row) k 0)) bytes p ≡ get_or (row_rates bytes row) k 0
      → refuses side line ≡ rate_checked zeros (form_of bytes) bytes row (get_or (row_columns bytes row) k 0) (row_marked bytes row (get_or (row_columns bytes row) k 0)) p)
      → refuses side line ≡ row_checked zeros (form_of bytes) bytes n row (map_at bytes row)
  by_rate row k g m r side line f =
      by_rates row g m _
      (rates_refused (form_of bytes) (row_marked bytes row) row side line (row_columns bytes row) (rates_begin bytes row) k r.inside r.there r.before f)

  -- ---- the rows before a row are passed

  before : ℕ → ℕ
  before zero = 0
  before (suc row) = before row + stored_count bytes n (map_at bytes row)

  to_row : (row : ℕ) → row ≤ n → SoundTo zeros bytes row → RowsLeft zeros (form_of bytes) bytes n row (map_at bytes row) (before row)
  unfolding before
  to_row zero l s = record { turn = l; inside = s.some; few = omega arith; left = let z : n - 0 ≡ n = omega arith in rw z }
  to_row (suc row) l s =
      let at_row = to_row row (omega arith) (record { some = s.some; order = s.order; rows = λ i m. s.rows i (omega arith) }) in
      rw (add-one row)
      at (rows_more zeros (form_of bytes) bytes n row (map_at bytes row) (before row) at_row (omega arith) _ (row_sound row (s.rows row (omega arith))) _ refl)

  -- a row after them that is refused decides
  stop : {row : ℕ} → row < n → SoundTo zeros bytes row → (side : Side) (line : Line) → refuses side line ≡ row_checked zeros (form_of bytes) bytes n row (map_at bytes row)
      → refuses side line ≡ file_checked zeros bytes
  stop {row} l s side line h =
      file_rows zeros bytes s.some (order_of_lem n s.order) _
      (rows_stop zeros (form_of bytes) bytes n row (map_at bytes row) (before row) (to_row row (omega arith) s) l side line (sym h))

  -- ---- the bytes, and the room

  pub says_file : {v : Verdict ℕ} → FileSays zeros bytes v → v ≡ file_checked zeros bytes
  says_file (order_absent h) = file_empty zeros bytes h
  says_file (order_broken p h) = file_order zeros bytes p (not_so _ (λ t. h (order_true n t)))
  says_file (map_cut {row} l s h) = stop l s _ _ (row_no_map zeros (form_of bytes) bytes n row (map_at bytes row) h)
  says_file (bit_broken {row} {bit} l s f) =
      stop l s _ _ (row_bad_bit zeros (form_of bytes) bytes n row (map_at bytes row) f.there bit (first_bad_lem row bit f) f.inside)
  says_file (marks_cut {row} l s g h) = stop l s _ _ (by_marks row g _ _ (cut_marks (form_of bytes) row (map_at bytes row) g.there h))
  says_file (mark_loose {row} {bit} l s g f) =
      stop l s _ _ (by_marks row g _ _ (loose_marks (form_of bytes) row (map_at bytes row) bit f.there f.inside f.broken f.before))
  says_file (rates_cut {row} l s g m h a) =
      stop l s _ _ (by_rates row g m _ (rates_short (form_of bytes) (row_marked bytes row) row (row_columns bytes row) (rates_begin bytes row) h a m.there))
  says_file (rate_zero {row} {k} l s g m r z q) =
      stop l s _ _
      (by_rate row k g m r _ _ (λ p h e. rate_none zeros (form_of bytes) bytes row _ _ p h z (omega (arith, e, q)) row _ refl refl))
  says_file (mark_wrong {row} {k} l s g m r z w) =
      stop l s _ _
      (by_rate row k g m r _ _
      (λ p h e. rate_marked zeros (form_of bytes) bytes row _ _ p h (λ t. omega (arith, e, z t)) _
      (checks.mark_wrong (form_of bytes) row _ _ _ _ (λ t. w (t ∙ ap (short (form_of bytes)) e)) row _ refl refl)))
  says_file (left_over s h) =
      file_rows zeros bytes s.some (order_of_lem n s.order) _
      (rows_extra zeros (form_of bytes) bytes n n (map_at bytes n) (before n) (to_row n (omega arith) s) (omega arith) (λ q. omega arith))
  says_file (all_sound s h) =
      let whole : accepts (before n) ≡ file_checked zeros bytes =
      file_rows zeros bytes s.some (order_of_lem n s.order) _
      (rows_end zeros (form_of bytes) bytes n n (map_at bytes n) (before n) (to_row n (omega arith) s) (omega arith) h) in
      ap accepts (sym (file_entries zeros bytes (before n) (sym whole))) ∙ whole

  pub says_read : (starts columns rates : ℕ) {v : Verdict (ℕ × ℕ × Form)} → ReadSays zeros bytes starts columns rates v → v ≡ read_verdict zeros bytes starts columns rates
  unfolding read_verdict
  says_read starts columns rates (bytes_broken f) = rw (← says_file f)
  says_read starts columns rates (room_short {e} f h) =
      read_no_room zeros bytes starts columns rates e (sym (says_file f)) (not_so (room_to_read n e starts columns rates) (λ t. h (has_room n e starts columns rates t)))
  says_read starts columns rates (all_read {e} f h) = read_room zeros bytes starts columns rates e (sym (says_file f)) (room_is n e starts columns rates h)

-- ---- a writing

pub says_written : (form : Form) (c : Rows) (room : ℕ) {v : Verdict ℕ} → WriteSays form c room v → v ≡ write_verdict form c room
unfolding write_verdict
says_written form c room (writing.rule_broken p) = rw (← says_checked c p)
says_written form c room (writing.room_short a l) = rw (sound_accepted c a, lt-leb _ _ l)
says_written form c room (writing.all_written a l) = rw (sound_accepted c a, le-leb _ _ l)
