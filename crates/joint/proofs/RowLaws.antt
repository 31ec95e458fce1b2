-- The rows of a rate function put into lists, entry by entry and row by row. Assumes nothing.
use mathlib.Core.List.{List, [], ◌∷◌, ◌++◌, append-nil}
use mathlib.Core.Path.{◌≡◌, refl, sym, ap, ◌∙◌}
use Prim.Native.Nat.{ℕ, zero, suc, ◌+◌, ◌*◌, ◌<◌, ◌≤◌}
use native.Mathlib.Nat.{mul-le-mul}
use native.Mathlib.Numerals.{add-one}
use native.Mathlib.Omega.{arith}
use lib.Dec.{ltb}
use lib.ListN.{length, set, length-set}
use lib.Seq.{sets, length-sets}
use Rattle.basics.specs.Lists.{table}
use Rattle.basics.proofs.BoolLaws.{count_most}
use Rattle.basics.proofs.SumLaws.{sum_most}
use Rattle.basics.proofs.SetsLaws.{sets_append}
use Rattle.basics.proofs.FillLaws.{table_length}
use Rattle.markov.specs.Chain.{Rates}
use Rattle.layout.specs.Buffers.{Buffers, buffers}
use Rattle.from_rates.specs.FromRates.{together, entry, columns_of, rates_of, start_of, from_rates}
use Rattle.from_rates.proofs.TogetherLaws.{together_none, together_more, together_length, more_length, together_mono}
use Rattle.from_rates.proofs.FromLaws.{entry_length, columns_rates, start_rates, start_next}
use Rattle.from_rates.proofs.SameChain.{entry_one}
use Rattle.joint.specs.Inner.{PutJointRow, JointRowPut, PutRows, RowsPut}

-- ---- one row

-- what stands before column y in a row with the rates g: for each entry a number v
abbrev before : (ℕ → ℕ) → (ℕ → ℕ) → ℕ → List ℕ
before g v y = together y (λ k. entry (g k) (v k))

-- an entry more is put behind, none leaves all as it is
put_more : (g v : ℕ → ℕ) (y : ℕ) (l : List ℕ) (p : ℕ) → 0 < g y → sets l p (before g v (y + 1)) ≡ set (sets l p (before g v y)) (p + length (before g v y)) (v y)
put_more g v y l p h =
    ap (sets l p) (together_more y (λ k. entry (g k) (v k)) ∙ ap (λ (t : List ℕ). before g v y ++ t) (entry_one (g y) (v y) h))
    ∙ sets_append l p (before g v y) (v y ∷ [])

put_none : (g v : ℕ → ℕ) (y : ℕ) → 0 ≡ g y → before g v (y + 1) ≡ before g v y
put_none g v y e = together_more y (λ k. entry (g k) (v k)) ∙ rw (← e) (append-nil (before g v y))

length_more : (g v : ℕ → ℕ) (y : ℕ) → 0 < g y → length (before g v (y + 1)) ≡ length (before g v y) + 1
length_more g v y h = more_length y (λ k. entry (g k) (v k)) ∙ rw (entry_one (g y) (v y) h)

-- the entries before column y of row x have been put from place p on; the next one goes to place q
pub record RowSoFar (n : ℕ) (f : Rates) (x : ℕ) (columns rates : List ℕ) (p y q : ℕ) (columns' rates' : List ℕ) : Type 0 where
  pub below : y ≤ n
  pub next : q ≡ p + length (before (f x) (λ k. k) y)
  pub columns_are : columns' ≡ sets columns p (before (f x) (λ k. k) y)
  pub rates_are : rates' ≡ sets rates p (before (f x) (f x) y)
  pub columns_long : length columns' ≡ length columns
  pub rates_long : length rates' ≡ length rates

-- the slices are known by what they are equal to
pub row_moved : {n : ℕ} {f : Rates} {x : ℕ} {columns rates : List ℕ} {p y q q' : ℕ} {columns' rates' columns'' rates'' : List ℕ}
    → columns'' ≡ columns' → rates'' ≡ rates' → q' ≡ q
    → RowSoFar n f x columns rates p y q columns' rates' → RowSoFar n f x columns rates p y q' columns'' rates''
row_moved a b c h = rw (a, b, c) h

module _ (n : ℕ) (f : Rates) (x : ℕ) (columns rates : List ℕ) (p : ℕ) where
  pub row_first : RowSoFar n f x columns rates p 0 p columns rates
  row_first = record {
    below = omega arith;
    next = rw (together_none (λ k. entry (f x k) k)) (omega arith);
    columns_are = rw (together_none (λ k. entry (f x k) k));
    rates_are = rw (together_none (λ k. entry (f x k) (f x k)));
    columns_long = refl;
    rates_long = refl;
  }

  module _ {y q : ℕ} {columns' rates' : List ℕ} (h : RowSoFar n f x columns rates p y q columns' rates') where
    -- there is room for one more
    pub row_room : y < n → 0 < f x y → q < p + length (columns_of n f x)
    row_room l m = omega (arith, h.next, length_more (f x) (λ k. k) y m, together_mono (y + 1) n (λ k. entry (f x k) k) (omega arith))

    pub row_more : {r : ℕ} → y < n → 0 < r → r ≡ f x y → RowSoFar n f x columns rates p (y + 1) (q + 1) (set columns' q y) (set rates' q r)
    row_more {r} l m e =
        let m' : 0 < f x y = omega arith in
        record {
          below = omega arith;
          next = omega (arith, h.next, length_more (f x) (λ k. k) y m');
          columns_are = rw (h.columns_are, h.next) (sym (put_more (f x) (λ k. k) y columns p m'));
          rates_are = rw (h.rates_are, h.next, e, columns_rates y f x) (sym (put_more (f x) (f x) y rates p m'));
          columns_long = length-set columns' q y ∙ h.columns_long;
          rates_long = length-set rates' q r ∙ h.rates_long;
        }

    pub row_none : y < n → 0 ≡ f x y → RowSoFar n f x columns rates p (y + 1) q columns' rates'
    row_none l e = record {
      below = omega arith;
      next = rw (put_none (f x) (λ k. k) y e) h.next;
      columns_are = rw (put_none (f x) (λ k. k) y e) h.columns_are;
      rates_are = rw (put_none (f x) (f x) y e) h.rates_are;
      columns_long = h.columns_long;
      rates_long = h.rates_long;
    }

-- ---- all rows

table_more : (k : ℕ) (f : ℕ → ℕ) → table (suc k) f ≡ table k f ++ (f k ∷ [])
unfolding table
table_more zero f = refl
table_more (suc k) f = ap (λ (t : List ℕ). f zero ∷ t) (table_more k (λ i. f (suc i)))

start_put : (l : List ℕ) (k : ℕ) (f : ℕ → ℕ) → sets l 0 (table (k + 1) f) ≡ set (sets l 0 (table k f)) k (f k)
start_put l k f =
    let z : 0 + length (table k f) ≡ k = omega (arith, table_length 0 k f) in
    let m : table (k + 1) f ≡ table k f ++ (f k ∷ []) = rw add-one (table_more k f) in
    ap (sets l 0) m ∙ sets_append l 0 (table k f) (f k ∷ []) ∙ rw z

-- at most 64 rows of at most 64 entries each
row_few : (n : ℕ) (f : Rates) (x : ℕ) → length (columns_of n f x) ≤ n
row_few n f x =
    let m = sum_most n 1 (λ y. length (entry (f x y) y)) (λ y l. rw (entry_length (f x y) y) (count_most (ltb 0 (f x y)))) in
    omega (arith, m, together_length n (λ y. entry (f x y) y))

start_few : (n : ℕ) (f : Rates) (x : ℕ) → x ≤ n → n ≤ 64 → start_of n f x ≤ 4096
start_few n f x l h =
    let m = sum_most x n (λ i. length (columns_of n f i)) (λ i b. row_few n f i) in
    let b : x ≤ 64 = omega arith in
    let k : x * n ≤ 64 * 64 = mul-le-mul b h in
    omega (arith, m, k, together_length x (columns_of n f))

-- a row behind the rows before it
row_put : (l : List ℕ) (x p : ℕ) (lists : ℕ → List ℕ) → p ≡ length (together x lists) → sets l 0 (together (x + 1) lists) ≡ sets (sets l 0 (together x lists)) p (lists x)
row_put l x p lists e =
    let z : 0 + length (together x lists) ≡ p = omega (arith, e) in
    ap (sets l 0) (together_more x lists) ∙ sets_append l 0 (together x lists) (lists x) ∙ rw z

-- the rows before row x have been put; the next entry goes to place p
pub record RowsSoFar (n : ℕ) (f : Rates) (old : Buffers) (x p : ℕ) (new : Buffers) : Type 0 where
  pub below : x ≤ n
  pub next : p ≡ start_of n f x
  pub starts_are : new.starts ≡ sets old.starts 0 (table x (start_of n f))
  pub columns_are : new.columns ≡ sets old.columns 0 (together x (columns_of n f))
  pub rates_are : new.rates ≡ sets old.rates 0 (together x (rates_of n f))
  pub starts_long : length new.starts ≡ length old.starts
  pub columns_long : length new.columns ≡ length old.columns
  pub rates_long : length new.rates ≡ length old.rates

module _ (n : ℕ) (f : Rates) (old : Buffers) where
  pub rows_first : RowsSoFar n f old 0 0 old
  unfolding table
  rows_first = record {
    below = omega arith;
    next = rw (together_none (columns_of n f));
    starts_are = refl;
    columns_are = rw (together_none (columns_of n f));
    rates_are = rw (together_none (rates_of n f));
    starts_long = refl;
    columns_long = refl;
    rates_long = refl;
  }

  module _ (h : PutRows n f old) {x p : ℕ} {new : Buffers} (s : RowsSoFar n f old x p new) where
    -- there is room for row x
    pub rows_room : x < n → PutJointRow n f x new.columns new.rates p
    unfolding from_rates
    rows_room l =
        let most : p + length (columns_of n f x) ≤ length (together n (columns_of n f)) =
        omega (arith, s.next, start_next n f x, together_mono (x + 1) n (columns_of n f) (omega arith)) in
        record {
          inside = l;
          columns_fit = omega (arith, most, s.columns_long, h.columns_fit);
          rates_fit = omega (arith, most, s.rates_long, h.rates_fit);
        }

    pub rows_few : n ≤ 64 → p ≤ 4096
    rows_few l = omega (arith, s.next, start_few n f x s.below l)

    pub rows_next : {q : ℕ} {columns' rates' : List ℕ} → x < n → JointRowPut n f x new.columns new.rates p q columns' rates'
        → RowsSoFar n f old (x + 1) q (buffers (set new.starts x p) columns' rates')
    rows_next l r = record {
      below = omega arith;
      next = r.next ∙ rw s.next (sym (start_next n f x));
      starts_are = rw (s.starts_are, s.next) (sym (start_put old.starts x (start_of n f)));
      columns_are = r.columns_are ∙ rw s.columns_are (sym (row_put old.columns x p (columns_of n f) s.next));
      rates_are = r.rates_are ∙ rw s.rates_are (sym (row_put old.rates x p (rates_of n f) (s.next ∙ start_rates n f x)));
      starts_long = length-set new.starts x p ∙ s.starts_long;
      columns_long = rw r.columns_are (length-sets new.columns p (columns_of n f x) ∙ s.columns_long);
      rates_long = rw r.rates_are (length-sets new.rates p (rates_of n f x) ∙ s.rates_long);
    }

    pub rows_end : n ≤ x → RowsPut n f old (buffers (set new.starts n p) new.columns new.rates)
    unfolding from_rates
    rows_end l =
        let e : x ≡ n = omega (arith, s.below) in
        let d : RowsSoFar n f old n p new = rw e at s in
        record {
          starts_are = rw (d.starts_are, d.next) (sym (start_put old.starts n (start_of n f)));
          columns_are = d.columns_are;
          rates_are = d.rates_are;
        }
