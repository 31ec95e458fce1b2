-- The verdict on a file rests on its first `enough_bytes` bytes: where there are more, bytes are left over. Assumes nothing.
use Prim.Native.Nat.{ℕ, zero, suc, ◌+◌, ◌-◌, ◌*◌, ◌/◌, ◌≤◌, ◌<◌}
use mathlib.Core.Bool.{Bool, true, false, cond}
use mathlib.Core.List.{List, [], ◌∷◌}
use mathlib.Core.Path.{◌≡◌, refl}
use native.Mathlib.Nat.{mul-le-mul, suc-mul}
use native.Mathlib.Omega.{arith}
use borrow.Author.Tests.{le-leb, lt-ltb, ne_eqb}
use lib.Dec.{ltb}
use lib.ListN.{length, get_or}
use Rattle.basics.proofs.FirstLaws.{first_of_cong}
use Rattle.chain.specs.Rules.{order_sound}
use Rattle.chain.proofs.SoundLaws.{order_true}
use Rattle.refusal.specs.Table.{Verdict, accepts, refuses, and_then}
use Rattle.layout.specs.declared.Form.{Form}
use Rattle.layout.specs.declared.Form.TheVariants.{One, Two}
use Rattle.layout.specs.Forms.{width}
use Rattle.layout.specs.Bytes.{map_bytes, maps_of, bit_at, marked, holding, stored_columns, stored_count, short_rate, stored_rate, rate_at, form_of, order_of}
use Rattle.layout.specs.File.{enough_bytes}
use Rattle.layout.proofs.Rates.{width_high, maps_low, maps_high, widths_high}
use Rattle.file_rules.specs.Verdict.{bad_bit, first_bad_bit, loose_bit, first_loose_bit, bytes_refused, rate_checked, rates_checked, marks_checked, row_checked, rows_checked, file_checked}
use Rattle.file_rules.proofs.Checks.{rate_is, marks_are, row_is}
use Rattle.storage.proofs.Holding.{held}
use Rattle.storage.proofs.Passes.{row_few}

-- ---- tests that agree

holding_same : (f g : ℕ → Bool) (k i : ℕ) → ((j : ℕ) → i ≤ j → j < i + k → f j ≡ g j) → holding f k i ≡ holding g k i
holding_same f g zero i h = refl
holding_same f g (suc k) i h = rw (h i (omega arith) (omega arith), holding_same f g k (i + 1) (λ j a b. h j (omega arith) (omega arith)))

-- ---- two lists of bytes that agree in their first places

pub record Agree (k : ℕ) (s t : List ℕ) : Type 0 where
  pub same : (i : ℕ) → i < k → get_or s i 0 ≡ get_or t i 0
  pub long_s : k ≤ length s
  pub long_t : k ≤ length t

module _ {k : ℕ} {s t : List ℕ} (a : Agree k s t) where
  bit_same : (map j : ℕ) → map + j / 8 < k → bit_at s map j ≡ bit_at t map j
  unfolding bit_at
  bit_same map j h = rw (a.same (map + j / 8) h)

  rate_same : (place : ℕ) → place + 4 ≤ k → stored_rate s place ≡ stored_rate t place
  unfolding stored_rate
  rate_same place h =
      rw (a.same place (omega arith), a.same (place + 1) (omega arith), a.same (place + 2) (omega arith), a.same (place + 3) (omega arith))

  short_same : (place : ℕ) → place + 2 ≤ k → short_rate s place ≡ short_rate t place
  unfolding short_rate
  short_same place h = rw (a.same place (omega arith), a.same (place + 1) (omega arith))

  at_same : (b : Bool) (place : ℕ) → place + width b ≤ k → rate_at b s place ≡ rate_at b t place
  at_same true place h = short_same place h
  at_same false place h = rate_same place h

  module _ (zeros : Bool) (form : Form) (row : ℕ) where
    rate_checked_lem : (column : ℕ) (b : Bool) (place : ℕ) → place + width b ≤ k → rate_checked zeros form s row column b place ≡ rate_checked zeros form t row column b place
    unfolding rate_checked
    rate_checked_lem column b place h =
        rw (
          le-leb (place + width b) (length s) (omega (arith, a.long_s)),
          le-leb (place + width b) (length t) (omega (arith, a.long_t)),
          at_same b place h,
        )

    -- marks that agree at these columns
    rates_same : (marks marks' : ℕ → Bool) (columns : List ℕ) (place : ℕ) → ((i : ℕ) → i < length columns → marks (get_or columns i 0) ≡ marks' (get_or columns i 0))
        → place + 4 * length columns ≤ k
        → rates_checked zeros form s row marks columns place ≡ rates_checked zeros form t row marks' columns place
    rates_same marks marks' [] place e h = refl
    rates_same marks marks' (column ∷ columns) place e h =
        let w = width_high (marks' column) in
        rw (e 0 (omega arith), rate_checked_lem column (marks' column) place (omega arith))
        (go (rate_checked zeros form t row column (marks' column) place) refl
        (λ next l. rates_same marks marks' columns next (λ i q. e (suc i) (omega arith)) l))
      where
        go : (v : Verdict ℕ) → rate_checked zeros form t row column (marks' column) place ≡ v
            → ((next : ℕ) → next + 4 * length columns ≤ k → rates_checked zeros form s row marks columns next ≡ rates_checked zeros form t row marks' columns next)
            → and_then v (λ next. rates_checked zeros form s row marks columns next) ≡ and_then v (λ next. rates_checked zeros form t row marks' columns next)
        go (accepts next) q ih =
            let w = width_high (marks' column) in
            let r = rate_is zeros form t row column (marks' column) place next q in
            ih next (omega (arith, r.end))
        go (refuses side line) q ih = refl

  module _ (n map : ℕ) (h : map + map_bytes n ≤ k) where
    columns_same : stored_columns s n map ≡ stored_columns t n map
    columns_same = holding_same (bit_at s map) (bit_at t map) (n - 0) 0 (λ j x y. bit_same map j (omega arith))

    bad_same : (row : ℕ) → first_bad_bit s n row map ≡ first_bad_bit t n row map
    bad_same row =
        first_of_cong (bad_bit s n row map) (bad_bit t n row map) (8 * map_bytes n - 0) 0 (λ j x y. rw (bit_same map j (omega arith)))

    loose_same : map + (map_bytes n + map_bytes n) ≤ k → first_loose_bit s n map ≡ first_loose_bit t n map
    loose_same l =
        first_of_cong (loose_bit s n map) (loose_bit t n map) (8 * map_bytes n - 0) 0
        (λ j x y. rw (bit_same map j (omega arith), bit_same (map + map_bytes n) j (omega arith)))

    marks_same : (form : Form) (row : ℕ) → map + maps_of form n ≤ k → marks_checked form s n row map ≡ marks_checked form t n row map
    unfolding marks_checked
    marks_same One row l = refl
    marks_same Two row l =
        rw (
          le-leb (map + (map_bytes n + map_bytes n)) (length s) (omega (arith, a.long_s)),
          le-leb (map + (map_bytes n + map_bytes n)) (length t) (omega (arith, a.long_t)),
          loose_same l,
        )

    marked_same : (form : Form) → map + maps_of form n ≤ k → (j : ℕ) → j < n → marked form s n map j ≡ marked form t n map j
    marked_same One l j q = refl
    marked_same Two l j q = bit_same (map + map_bytes n) j (omega arith)

    row_same : (zeros : Bool) (form : Form) (row : ℕ) → row < n → map + maps_of form n + 4 * (n - 1) ≤ k → row_checked zeros form s n row map ≡ row_checked zeros form t n row map
    unfolding row_checked
    row_same zeros form row l room =
        rw (
          le-leb (map + map_bytes n) (length s) (omega (arith, a.long_s)),
          le-leb (map + map_bytes n) (length t) (omega (arith, a.long_t)),
          bad_same row,
          columns_same,
          marks_same form row (omega arith),
        )
        (go (ltb (first_bad_bit t n row map) (8 * map_bytes n)) refl)
      where
        after : ltb (first_bad_bit t n row map) (8 * map_bytes n) ≡ false → (v : Verdict ℕ) → marks_checked form t n row map ≡ v
            → and_then v (λ place. rates_checked zeros form s row (marked form s n map) (stored_columns t n map) place)
            ≡ and_then v (λ place. rates_checked zeros form t row (marked form t n map) (stored_columns t n map) place)
        after e (accepts place) m =
            let few = row_few form t n row map e l in
            let q = marks_are t n row map form place m in
            rates_same zeros form row (marked form s n map) (marked form t n map) (stored_columns t n map) place
            (λ i x. marked_same form (omega arith) _ (omega (arith, (held (bit_at t map) (n - 0) 0 i x).high)))
            (omega (arith, few, q.end))
        after e (refuses side line) m = refl

        go : (bad : Bool) → ltb (first_bad_bit t n row map) (8 * map_bytes n) ≡ bad
            → cond bad (bytes_refused 9 row (first_bad_bit t n row map))
            (and_then (marks_checked form t n row map) (λ place. rates_checked zeros form s row (marked form s n map) (stored_columns t n map) place))
            ≡ cond bad (bytes_refused 9 row (first_bad_bit t n row map))
            (and_then (marks_checked form t n row map) (λ place. rates_checked zeros form t row (marked form t n map) (stored_columns t n map) place))
        go true e = refl
        go false e = after e (marks_checked form t n row map) refl

  -- each row takes at most w bytes, and all that the rows take is inside
  rows_same : (zeros : Bool) (form : Form) (n w : ℕ) → w ≡ maps_of form n + 4 * (n - 1) → (j row map p : ℕ) → row + j ≤ n → map + j * w < k
      → rows_checked zeros form s n j row map p ≡ rows_checked zeros form t n j row map p
  rows_same zeros form n w q zero row map p l h =
      rw (ne_eqb map (length s) (λ e. omega (arith, a.long_s)), ne_eqb map (length t) (λ e. omega (arith, a.long_t)))
  rows_same zeros form n w q (suc j) row map p l h =
      let low = maps_low form n in
      let room : map + w + j * w < k = omega (arith, suc-mul j w) in
      rw (row_same n map (omega arith) zeros form row (omega arith) (omega arith), columns_same n map (omega arith))
      (go (row_checked zeros form t n row map) refl (λ next b. rows_same zeros form n w q j (row + 1) next (p + stored_count t n map) (omega arith) (omega arith)))
    where
      go : (v : Verdict ℕ) → row_checked zeros form t n row map ≡ v
          → ((next : ℕ) → next ≤ map + w
          → rows_checked zeros form s n j (row + 1) next (p + stored_count t n map) ≡ rows_checked zeros form t n j (row + 1) next (p + stored_count t n map))
          → and_then v (λ next. rows_checked zeros form s n j (row + 1) next (p + stored_count t n map))
          ≡ and_then v (λ next. rows_checked zeros form t n j (row + 1) next (p + stored_count t n map))
      go (accepts next) e ih =
          let is = row_is zeros form t n row map next e in
          let wide = widths_high (marked form t n map) (stored_columns t n map) in
          ih next (omega (arith, is.end, row_few form t n row map is.clean (omega arith)))
      go (refuses side line) e ih = refl

-- ---- a whole file

pub file_same : (zeros : Bool) {s t : List ℕ} → Agree enough_bytes s t → file_checked zeros s ≡ file_checked zeros t
unfolding file_checked
file_same zeros {s} {t} a =
    rw (lt-ltb 0 (length s) (omega (arith, a.long_s)), lt-ltb 0 (length t) (omega (arith, a.long_t)), a.same 0 (omega arith))
    (go (order_sound (order_of t)) refl)
  where
    go : (b : Bool) → order_sound (order_of t) ≡ b
        → cond b (rows_checked zeros (form_of t) s (order_of t) (order_of t) 0 1 0) (bytes_refused 1 0 0)
        ≡ cond b (rows_checked zeros (form_of t) t (order_of t) (order_of t) 0 1 0) (bytes_refused 1 0 0)
    go false e = refl
    go true e =
        let o = order_true (order_of t) e in
        let high = maps_high (form_of t) (order_of t) in
        let most : maps_of (form_of t) (order_of t) + 4 * (order_of t - 1) ≤ 268 = omega (arith, o.high) in
        let all : order_of t * (maps_of (form_of t) (order_of t) + 4 * (order_of t - 1)) ≤ 64 * 268 = mul-le-mul o.high most in
        rows_same a zeros (form_of t) (order_of t) _ refl (order_of t) 0 1 0 (omega arith) (omega (arith, all))
