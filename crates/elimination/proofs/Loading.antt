-- The matrix that is loaded holds the rates between the listed states. Assumes nothing.
use mathlib.Core.Bool.{Bool}
use mathlib.Core.List.{List}
use mathlib.Core.Logic.{◌≢◌, ⊎_elim}
use mathlib.Core.Path.{◌≡◌, refl, sym, ap, ◌∙◌}
use Prim.Native.Nat.{ℕ, ◌+◌, ◌*◌, ◌≤◌, ◌<◌}
use native.Mathlib.Decide.{dec_lt}
use native.Mathlib.Nat.{eq-or-lt_of_le}
use native.Mathlib.Omega.{arith}
use borrow.Author.Tests.{eqb-true, eqb-false}
use lib.Dec.{eqb}
use lib.IntN.{pos}
use lib.ListN.{length, get_or, replicate}
use Rattle.scaled.specs.Scaled.{zero_number, rate_of}
use Rattle.scaled.proofs.Laws.{rate_zero}
use Rattle.std.specs.Prelude.{Option, None, Some}
use Rattle.basics.specs.First.{first}
use Rattle.basics.proofs.FirstLaws.{IsFirst, first_is}
use Rattle.chain.specs.Sound.{Sound}
use Rattle.chain.specs.Rows.{Rows, begins, ends, column_at}
use Rattle.chain.specs.Meaning.{rate_in}
use Rattle.chain.proofs.SoundLaws.{start_within}
use Rattle.chain.proofs.RateLaws.{rate_none, column_once, entry_rate}
use Rattle.kernel.specs.Slices.{Slices, pair, number_at, entry_at}
use Rattle.kernel.proofs.Entries.{kept_on}
use Rattle.members.proofs.Listing.{listed_count, listed_below, listed_place, listed_state}
use Rattle.elimination.specs.Inner.{matrix_of, RowLoaded, Loadable, EntryLoaded}
use Rattle.basics.proofs.FillLaws.{get_or_replicate}

-- ---- one row

-- what is read for row a lies within the slices
pub record RowIn (c : Rows) (states : List ℕ) (places : List (Option ℕ)) (a : ℕ) : Type 0 where
  pub listed : a < length states
  pub state : get_or states a 0 < c.order
  pub order : c.order ≤ 64
  pub starts : length c.starts ≡ c.order + 1
  pub rises : begins c (get_or states a 0) ≤ ends c (get_or states a 0)
  pub within : ends c (get_or states a 0) ≤ length c.columns
  pub columns : length c.columns ≡ length c.rates
  pub column : (p : ℕ) → begins c (get_or states a 0) ≤ p → p < ends c (get_or states a 0) → column_at c p < length places

pub row_in : {c : Rows} {states : List ℕ} {places : List (Option ℕ)} {r a : ℕ} → Sound c → Loadable c states places r → a < r → RowIn c states places a
row_in {states = states} {a = a} s l h =
    let i = listed_below l.listed a h in
    record {
      listed = omega (arith, l.listed.list_long, listed_count l.listed, s.order.high);
      state = i;
      order = s.order.high;
      starts = s.starts_rule.count;
      rises = s.starts_rule.rises _ i;
      within = start_within s.starts_rule (get_or states a 0 + 1) (omega arith);
      columns = s.lengths;
      column = λ p lo hi. omega (arith, (s.columns_rule.entry _ p i lo hi).below, s.order.high, l.listed.places_long);
    }

module _ {c : Rows} {states : List ℕ} {places : List (Option ℕ)} {r a : ℕ} (sound : Sound c) (s : Loadable c states places r) (row : a < r)
    {p : ℕ} (low : begins c (get_or states a 0) ≤ p) (high : p < ends c (get_or states a 0)) where
  in_chain : column_at c p < c.order
  in_chain = (sound.columns_rule.entry _ p (listed_below s.listed a row) low high).below

  -- an earlier entry of the row has another column
  earlier : (q : ℕ) → begins c (get_or states a 0) ≤ q → q < p → column_at c q ≢ column_at c p
  earlier q l g = column_once sound _ (listed_below s.listed a row) q p l (omega arith) low high (λ z. omega arith)

  -- the place of a listed state is its own
  own_place : (b : ℕ) → b < r → column_at c p ≡ get_or states b 0 → get_or places (column_at c p) None ≡ Some b
  own_place b hb q = rw q (listed_place s.listed b hb)

  -- a place is one of the list, and its state is the column
  pub place_of : (b : ℕ) → get_or places (column_at c p) None ≡ Some b → (b < r) × (get_or states b 0 ≡ column_at c p)
  place_of b q = listed_state s.listed (column_at c p) b in_chain q

  module _ {w w₁ w₂ : Slices} (h : RowLoaded c states r a p w w₁)
      (t : EntryLoaded r a (get_or places (column_at c p) None) (get_or c.rates p 0) w₁ w₂) where
    -- the place that is put is that of column p alone
    put_other : (b : ℕ) → b < r → column_at c p ≢ get_or states b 0 → entry_at r w₂ a b ≡ entry_at r w₁ a b
    put_other b hb d = go (get_or places (column_at c p) None) refl
      where
        go : (o : Option ℕ) → get_or places (column_at c p) None ≡ o → entry_at r w₂ a b ≡ entry_at r w₁ a b
        go (Some k) q = (t.listed k q).columns a b row hb (λ z. d (sym (rw (← z) at (place_of k q).1)))
        go None q = t.other q a b

    put_own : (b : ℕ) → b < r → column_at c p ≡ get_or states b 0 → entry_at r w₂ a b ≡ rate_of (get_or c.rates p 0)
    put_own b hb q = (t.listed b (own_place b hb q)).same

    pub row_go : RowLoaded c states r a (p + 1) w w₂
    row_go = record {
      kept = kept_on h.kept t.kept;
      rows = λ x y hx hy d. other_rows x y hx hy d ∙ h.rows x y hx hy d;
      put = λ q b l g hb w. ⊎_elim
          (λ (z : q ≡ p). rw z (put_own b hb (rw z at w)))
          (λ z. put_other b hb (λ v. earlier q l z (w ∙ sym v)) ∙ h.put q b l z hb w)
          (eq-or-lt_of_le (omega arith));
      none = λ b hb w. put_other b hb (w p low (omega arith)) ∙ h.none b hb (λ q l g. w q l (omega arith));
    }
      where
        other_rows : (x y : ℕ) → x < r → y < r → x ≢ a → entry_at r w₂ x y ≡ entry_at r w₁ x y
        other_rows x y hx hy d = go (get_or places (column_at c p) None) refl
          where
            go : (o : Option ℕ) → get_or places (column_at c p) None ≡ o → entry_at r w₂ x y ≡ entry_at r w₁ x y
            go (Some k) q = (t.listed k q).rows x y hx hy d
            go None q = t.other q x y

-- ---- from the rows to the matrix

module _ {c : Rows} {states : List ℕ} {r a : ℕ} (s : Sound c) (hi : get_or states a 0 < c.order) {w w' : Slices}
    (h : RowLoaded c states r a (ends c (get_or states a 0)) w w') (zero : (b : ℕ) → b < r → entry_at r w a b ≡ zero_number) where
  pub row_holds : (b : ℕ) → b < r → entry_at r w' a b ≡ matrix_of c (get_or states a 0) (get_or states b 0)
  row_holds b hb = go (dec_lt (first test (begins c i) (ends c i)) (ends c i))
    where
      i : ℕ
      i = get_or states a 0

      test : ℕ → Bool
      test p = eqb (column_at c p) (get_or states b 0)

      search : IsFirst test (begins c i) (ends c i) (first test (begins c i) (ends c i))
      search = first_is test _ _ (s.starts_rule.rises i hi)

      go : Dec (first test (begins c i) (ends c i) < ends c i) → entry_at r w' a b ≡ rate_of (rate_in c i (get_or states b 0))
      go (yes l) =
          let p = first test (begins c i) (ends c i) in
          let q : column_at c p ≡ get_or states b 0 = eqb-true _ _ (search.found l) in
          h.put p b search.low l hb q ∙ ap rate_of (sym (entry_rate s i hi p search.low l) ∙ ap (rate_in c i) q)
      go (no l) =
          let none : (p : ℕ) → begins c i ≤ p → p < ends c i → column_at c p ≢ get_or states b 0 = λ p lo hi. eqb-false _ _ (search.before p lo (omega arith)) in
          h.none b hb none ∙ zero b hb ∙ sym rate_zero ∙ ap rate_of (sym (rate_none c i (get_or states b 0) none))

-- the rows below k hold their rates, the others are still 0
pub record LoadedTo (c : Rows) (states : List ℕ) (k r : ℕ) (w : Slices) : Type 0 where
  pub entry : (a b : ℕ) → a < k → a < r → b < r → entry_at r w a b ≡ matrix_of c (get_or states a 0) (get_or states b 0)
  pub zeros : (a b : ℕ) → k ≤ a → a < r → b < r → entry_at r w a b ≡ zero_number

pub zeros_none : {c : Rows} {states : List ℕ} {r : ℕ} {w : Slices} → w ≡ pair (replicate (r * r) 0) (replicate (r * r) (pos 0)) → LoadedTo c states 0 r w
unfolding entry_at number_at
zeros_none {r = r} p = record {
  entry = λ a b l ha hb. absurd (omega arith);
  zeros = λ a b l ha hb. rw (p, get_or_replicate {A = ℕ} 0 (r * r) (a * r + b), get_or_replicate (pos 0) (r * r) (a * r + b));
}

pub loaded_go : {c : Rows} {states : List ℕ} {k r : ℕ} {w w' : Slices} → Sound c → ((a : ℕ) → a < r → get_or states a 0 < c.order) → k < r
    → LoadedTo c states k r w → RowLoaded c states r k (ends c (get_or states k 0)) w w' → LoadedTo c states (k + 1) r w'
loaded_go {k = k} s l hk h t = record {
  entry = λ a b g ha hb. ⊎_elim
      (λ (z : a ≡ k). rw z (row_holds s (l k hk) t (λ b hb. h.zeros k b (omega arith) hk hb) b hb))
      (λ z. t.rows a b ha hb (λ w. omega arith) ∙ h.entry a b z ha hb)
      (eq-or-lt_of_le (omega arith));
  zeros = λ a b g ha hb. t.rows a b ha hb (λ w. omega arith) ∙ h.zeros a b (omega arith) ha hb;
}
