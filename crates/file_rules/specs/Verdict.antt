-- Document 01, "Reading meets the order byte (8 if absent, then 1), then row by row: map cut short 8, map bit 9, rates cut short
-- 8; then 10, then 5", request R-5, "A zero rate is 14, tried .. in a file as soon as that rate's bytes have been read", and request R-8's 16
-- with what it asks of the second map: the first refusal that a reading meets. Whether rates of 0 are taken is the first argument.
use Rattle.std.specs.Prelude.{ℕ, zero, suc, ◌+◌, ◌*◌, ◌≤◌, Bool, true, false, cond, not, ◌&&◌, ◌||◌, List, [], ◌∷◌, eqb, leb, ltb, length}
use Rattle.chain.specs.Rules.{order_sound}
use Rattle.basics.specs.First.{first}
use Rattle.refusal.specs.Table.{Side, Verdict, accepts, refuses, of_bytes, numbered, and_then}
use Rattle.refusal.specs.declared.Line.{Line}
use Rattle.layout.specs.declared.Form.{Form}
use Rattle.layout.specs.declared.Form.TheVariants.{One, Two}
use Rattle.layout.specs.Forms.{short, width}
use Rattle.layout.specs.Bytes.{map_bytes, maps_of, bit_at, marked, stored_columns, stored_count, rate_at, form_of, order_of}
use Rattle.file_rules.specs.Sound.{FileSays}

-- a refusal of the bytes
abbrev pub bytes_refused : {A : Type 0} → ℕ → ℕ → ℕ → Verdict A
bytes_refused number first second = refuses of_bytes (numbered number first second)

-- 9: "a bit stands at its own row or at n or above"
abbrev pub bad_bit : List ℕ → ℕ → ℕ → ℕ → ℕ → Bool
bad_bit bytes n row map j = bit_at bytes map j && (eqb j row || leb n j)

-- the lowest such bit, or the number of the map's bits
abbrev pub first_bad_bit : List ℕ → ℕ → ℕ → ℕ → ℕ
first_bad_bit bytes n row map = first (bad_bit bytes n row map) 0 (8 * map_bytes n)

-- 16: "a bit of it without its rate", in the second map of form 2
abbrev pub loose_bit : List ℕ → ℕ → ℕ → ℕ → Bool
loose_bit bytes n map j = bit_at bytes (map + map_bytes n) j && not (bit_at bytes map j)

-- the lowest such bit, or the number of the map's bits
abbrev pub first_loose_bit : List ℕ → ℕ → ℕ → ℕ
first_loose_bit bytes n map = first (loose_bit bytes n map) 0 (8 * map_bytes n)

-- the second map of a row, which form 1 does not have: the place at which the rates begin. "After its row's 9, a second map cut short is
-- 8, then a bit of it without its rate is 16 with row and lowest such bit"
unfoldable pub marks_checked : Form → List ℕ → ℕ → ℕ → ℕ → Verdict ℕ
marks_checked One bytes n row map = accepts (map + map_bytes n)
marks_checked Two bytes n row map =
    cond (leb (map + maps_of Two n) (length bytes))
    (cond (ltb (first_loose_bit bytes n map) (8 * map_bytes n))
    (bytes_refused 16 row (first_loose_bit bytes n map))
    (accepts (map + maps_of Two n)))
    (bytes_refused 8 0 0)

-- two tests that agree
abbrev pub same : Bool → Bool → Bool
same true b = b
same false b = not b

-- "A bit that disagrees with its rate's size is 16 too .. with row and bit"
unfoldable pub mark_checked : Form → ℕ → ℕ → Bool → ℕ → ℕ → Verdict ℕ
mark_checked form row column mark rate next = cond (same mark (short form rate)) (accepts next) (bytes_refused 16 row column)

-- the rate of a row's column, from a place on: the place after it. "Found in a reading, 14 and any later number belong to the bytes"; a
-- disagreement is "tried straight after 14 for that rate"
unfoldable pub rate_checked : Bool → Form → List ℕ → ℕ → ℕ → Bool → ℕ → Verdict ℕ
rate_checked zeros form bytes row column mark place =
    cond (leb (place + width mark) (length bytes))
    (cond (zeros || ltb 0 (rate_at mark bytes place))
    (mark_checked form row column mark (rate_at mark bytes place) (place + width mark))
    (bytes_refused 14 row column))
    (bytes_refused 8 0 0)

-- the rates of a row's columns, one after the other from a place on: the place after them
abbrev pub rates_checked : Bool → Form → List ℕ → ℕ → (ℕ → Bool) → List ℕ → ℕ → Verdict ℕ
rates_checked zeros form bytes row marks [] place = accepts place
rates_checked zeros form bytes row marks (column ∷ columns) place =
    and_then (rate_checked zeros form bytes row column (marks column) place) (λ next. rates_checked zeros form bytes row marks columns next)

-- one row: the place after it
unfoldable pub row_checked : Bool → Form → List ℕ → ℕ → ℕ → ℕ → Verdict ℕ
row_checked zeros form bytes n row map =
    cond (leb (map + map_bytes n) (length bytes))
    (cond (ltb (first_bad_bit bytes n row map) (8 * map_bytes n))
    (bytes_refused 9 row (first_bad_bit bytes n row map))
    (and_then (marks_checked form bytes n row map)
    (λ place. rates_checked zeros form bytes row (marked form bytes n map) (stored_columns bytes n map) place)))
    (bytes_refused 8 0 0)

-- the k rows from a row on, after p entries; then nothing may be left over: the number of entries
abbrev pub rows_checked : Bool → Form → List ℕ → ℕ → ℕ → ℕ → ℕ → ℕ → Verdict ℕ
rows_checked zeros form bytes n zero row map p = cond (eqb map (length bytes)) (accepts p) (bytes_refused 10 0 0)
rows_checked zeros form bytes n (suc k) row map p =
    and_then (row_checked zeros form bytes n row map) (λ next. rows_checked zeros form bytes n k (row + 1) next (p + stored_count bytes n map))

-- all that is asked of the bytes themselves: the number of entries
unfoldable pub file_checked : Bool → List ℕ → Verdict ℕ
file_checked zeros bytes =
    cond (ltb 0 (length bytes))
    (cond (order_sound (order_of bytes)) (rows_checked zeros (form_of bytes) bytes (order_of bytes) (order_of bytes) 0 1 0) (bytes_refused 1 0 0))
    (bytes_refused 8 0 0)

-- 5: "it needs n + 1 starts and one place for each entry", the three slices being so long
unfoldable pub room_to_read : ℕ → ℕ → ℕ → ℕ → ℕ → Bool
room_to_read n entries starts columns rates = leb (n + 1) starts && leb entries columns && leb entries rates

-- a reading into slices of these lengths: the order, the number of entries and the form
unfoldable pub read_verdict : Bool → List ℕ → ℕ → ℕ → ℕ → Verdict (ℕ × ℕ × Form)
read_verdict zeros bytes starts columns rates =
    and_then (file_checked zeros bytes)
    (λ found. cond (room_to_read (order_of bytes) found starts columns rates) (accepts (order_of bytes, found, form_of bytes)) (bytes_refused 5 0 0))

-- the same as plain facts: what each verdict on a reading says
pub record HasRoom (n e starts columns rates : ℕ) : Type 0 where
  pub for_starts : n + 1 ≤ starts
  pub for_columns : e ≤ columns
  pub for_rates : e ≤ rates

pub data ReadSays (zeros : Bool) (bytes : List ℕ) (starts columns rates : ℕ) : Verdict (ℕ × ℕ × Form) → Type 0 where
  bytes_broken : {side : Side} {line : Line} → FileSays zeros bytes (refuses side line) → ReadSays zeros bytes starts columns rates (refuses side line)
  room_short : {e : ℕ} → FileSays zeros bytes (accepts e) → (HasRoom (order_of bytes) e starts columns rates → ⊥)
      → ReadSays zeros bytes starts columns rates (bytes_refused 5 0 0)
  all_read : {e : ℕ} → FileSays zeros bytes (accepts e) → HasRoom (order_of bytes) e starts columns rates
      → ReadSays zeros bytes starts columns rates (accepts (order_of bytes, e, form_of bytes))
