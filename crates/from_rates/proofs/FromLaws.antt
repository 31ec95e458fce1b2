-- The chain in rows of a rate function keeps the rules of a chain, has these rates, and has one entry for each positive rate. Assumes nothing.
use Prim.Native.Nat.{ℕ, zero, suc, ◌+◌, ◌-◌, ◌<◌, ◌≤◌}
use mathlib.Core.List.{List, [], ◌∷◌, ◌++◌, append-nil}
use mathlib.Core.Path.{◌≡◌, refl, sym, ap, ◌∙◌}
use native.Mathlib.Decide.{dec_lt}
use native.Mathlib.Nat.{add-zero}
use native.Mathlib.Omega.{arith}
use lib.Dec.{ltb}
use lib.ListN.{length, get_or, length-append, get_or-append}
use lib.Seq.{get_or_at}
use borrow.Author.Tests.{lt-ltb}
use Rattle.basics.specs.Below.{count}
use Rattle.basics.specs.Sum.{sum}
use Rattle.basics.proofs.FillLaws.{table_length, table_at}
use Rattle.basics.proofs.SumLaws.{sum_cong}
use Rattle.markov.specs.Chain.{Rates}
use Rattle.chain.specs.Rows.{begins, ends, column_at}
use Rattle.chain.specs.Sound.{SoundOrder, SoundStarts, SoundEntry, Accepted, AllPositive}
use Rattle.chain.specs.Meaning.{rate_in}
use Rattle.chain.proofs.RateLaws.{rate_none, entry_rate}
use Rattle.from_rates.specs.FromRates.{together, entry, columns_of, rates_of, start_of, from_rates}
use Rattle.from_rates.proofs.TogetherLaws.{together_none, more_length, together_length, together_even, together_mono, together_at, together_positive}

-- ---- entries

pub entry_length : (rate value : ℕ) → length (entry rate value) ≡ count (ltb 0 rate)
unfolding count
entry_length zero value = refl
entry_length (suc rate) value = rw (lt-ltb 0 (suc rate) (omega arith))

entry_positive : (rate : ℕ) → AllPositive (entry rate rate)
entry_positive zero p l = absurd (omega arith)
entry_positive (suc rate) zero l = omega arith
entry_positive (suc rate) (suc p) l = absurd (omega arith)

-- ---- one row

-- the place q of a list of columns below k that rise and have positive rates in the row
record Entry (row : ℕ → ℕ) (k : ℕ) (columns : List ℕ) (q : ℕ) : Type 0 where
  column_below : get_or columns q 0 < k
  positive : 0 < row (get_or columns q 0)
  rises : 0 < q → get_or columns (q - 1) 0 < get_or columns q 0

-- one column more
entry_more : (row : ℕ → ℕ) (k : ℕ) (s : List ℕ) → ((q : ℕ) → q < length s → Entry row k s q)
    → (rate : ℕ) → row k ≡ rate → (q : ℕ) → q < length (s ++ entry rate k) → Entry row (suc k) (s ++ entry rate k) q
entry_more row k s h zero e q l =
    let t = h q (omega (arith, length-append s [])) in
    rw (append-nil s) (record { column_below = omega (arith, t.column_below); positive = t.positive; rises = t.rises })
entry_more row k s h (suc rate) e q l =
    elim (dec_lt q (length s)) [
      | yes m ↦ (
          let t = h q m in
          let v = get_or-append s (k ∷ []) 0 q m in
          record {
            column_below = rw v (omega (arith, t.column_below));
            positive = rw v t.positive;
            rises = λ z. rw (v, get_or-append s (k ∷ []) 0 (q - 1) (omega arith)) (t.rises z);
          }
          )
      | no d ↦ (
          let last : length s ≡ q = omega (arith, length-append s (k ∷ [])) in
          let v = get_or_at s k [] 0 q last in
          record {
            column_below = rw v (omega arith);
            positive = rw v (omega arith);
            rises = λ z. rw (v, get_or-append s (k ∷ []) 0 (q - 1) (omega arith)) (h (q - 1) (omega arith)).column_below;
          }
          )
    ]

in_row : (row : ℕ → ℕ) (k q : ℕ) → q < length (together k (λ y. entry (row y) y)) → Entry row k (together k (λ y. entry (row y) y)) q
unfolding together
in_row row zero q l = absurd (omega arith)
in_row row (suc k) q l = entry_more row k _ (in_row row k) (row k) refl q l

-- a row has as many columns as rates
pub columns_rates : (n : ℕ) (f : Rates) (x : ℕ) → length (columns_of n f x) ≡ length (rates_of n f x)
columns_rates n f x =
    together_even n (λ y. entry (f x y) y) (λ y. entry (f x y) (f x y)) (λ y l. entry_length (f x y) y ∙ sym (entry_length (f x y) (f x y)))

-- where row x has its entry at column y: after the columns below y
module _ (n : ℕ) (f : Rates) (x y r : ℕ) (l : y < n) (e : f x y ≡ suc r) where
  has_within : length (columns_of y f x) < length (columns_of n f x)
  has_within =
      let one : length (entry (f x y) y) ≡ 1 = rw e in
      omega (arith, more_length y (λ j. entry (f x j) j), together_mono (y + 1) n (λ j. entry (f x j) j) (omega arith))

  has_column : get_or (columns_of n f x) (length (columns_of y f x)) 0 ≡ y
  has_column =
      let v = together_at n (λ j. entry (f x j) j) y 0 l (rw e (omega arith)) in
      rw add-zero at v ∙ rw e

  has_rate : get_or (rates_of n f x) (length (columns_of y f x)) 0 ≡ f x y
  has_rate =
      let v = together_at n (λ j. entry (f x j) (f x j)) y 0 l (rw e (omega arith)) in
      rw (columns_rates y f x) (rw add-zero at v ∙ rw e)

-- ---- the lists

module _ (n : ℕ) (f : Rates) where
  pub from_order : (from_rates n f).order ≡ n
  unfolding from_rates
  from_order = refl

  -- the rows before row x have as many columns as rates; with x = n all rows
  pub start_rates : (x : ℕ) → start_of n f x ≡ length (together x (rates_of n f))
  start_rates x = together_even x (columns_of n f) (rates_of n f) (λ i l. columns_rates n f i)

  -- the next row starts after this one
  pub start_next : (x : ℕ) → start_of n f (x + 1) ≡ start_of n f x + length (columns_of n f x)
  start_next x = more_length x (columns_of n f)

  pub start_is : (x : ℕ) → x ≤ n → begins (from_rates n f) x ≡ start_of n f x
  unfolding from_rates
  start_is x l = table_at 0 (n + 1) (start_of n f) x (omega arith)

  -- one entry for each positive rate
  pub from_count : length (from_rates n f).columns ≡ sum n (λ x. sum n (λ y. count (ltb 0 (f x y))))
  unfolding from_rates
  from_count =
      together_length n (columns_of n f)
      ∙ sum_cong n (λ x l. together_length n (λ y. entry (f x y) y) ∙ sum_cong n (λ y m. entry_length (f x y) y))

  starts_sound_lem : SoundStarts (from_rates n f)
  unfolding from_rates
  starts_sound_lem = record {
    count = table_length 0 (n + 1) (start_of n f);
    first = start_is 0 (omega arith) ∙ ap length (together_none (columns_of n f));
    rises = λ x l. rw (start_is x (omega arith), start_is (x + 1) (omega arith)) (omega (arith, start_next x));
    last = start_is n (omega arith);
  }

-- ---- an entry of row x, q places after its first

module _ (n : ℕ) (f : Rates) (x q : ℕ) (l : x < n) (m : q < length (columns_of n f x)) where
  pub column_is : column_at (from_rates n f) (start_of n f x + q) ≡ get_or (columns_of n f x) q 0
  unfolding from_rates
  column_is = together_at n (columns_of n f) x q l m

  pub rate_is : get_or (from_rates n f).rates (start_of n f x + q) 0 ≡ get_or (rates_of n f x) q 0
  unfolding from_rates
  rate_is = rw (start_rates n f x) (together_at n (rates_of n f) x q l (omega (arith, columns_rates n f x)))

-- ---- the rules

-- an entry of row x, q places after its first
record InRow (n : ℕ) (f : Rates) (x place : ℕ) : Type 0 where
  q : ℕ
  within : q < length (columns_of n f x)
  stands : start_of n f x + q ≡ place

module _ (n : ℕ) (f : Rates) (x place : ℕ) (l : x < n) where
  in_rows : begins (from_rates n f) x ≤ place → place < ends (from_rates n f) x → InRow n f x place
  in_rows a b =
      let s = start_is n f x (omega arith) in
      let e = start_is n f (x + 1) (omega arith) in
      let next = start_next n f x in
      record { q = place - start_of n f x; within = omega arith; stands = omega arith }

  column_of_lem : (r : InRow n f x place) → column_at (from_rates n f) place ≡ get_or (columns_of n f x) r.q 0
  column_of_lem r = rw r.stands at (column_is n f x r.q l r.within)

  entry_sound : f x x ≡ 0 → InRow n f x place → SoundEntry (from_rates n f) x place
  unfolding from_rates
  entry_sound own r =
      let q = r.q in
      let t = in_row (f x) n q r.within in
      let v = column_of_lem r in
      record {
        below = rw v t.column_below;
        not_row = λ d. (let z = sym v ∙ d in absurd (omega (arith, rw z at t.positive)));
        above = λ a. (
            let z : 0 < q = omega (arith, r.stands, start_is n f x (omega arith)) in
            let e : start_of n f x + (q - 1) ≡ place - 1 = omega (arith, r.stands) in
            rw (v, ← e, column_is n f x (q - 1) l (omega (arith, r.within))) (t.rises z)
            );
      }

module _ (n : ℕ) (f : Rates) (o : SoundOrder n) (own : (x : ℕ) → x < n → f x x ≡ 0) where
  pub from_accepted : Accepted (from_rates n f)
  unfolding from_rates
  from_accepted = record {
    sound = record {
      order = o;
      lengths = start_rates n f n;
      starts_rule = starts_sound_lem n f;
      columns_rule = record { entry = λ x place l a b. entry_sound n f x place l (own x l) (in_rows n f x place l a b) };
    };
    positive = together_positive n (rates_of n f) (λ x l. together_positive n (λ y. entry (f x y) (f x y)) (λ y m. entry_positive (f x y)));
  }

  -- ---- the rates

  pub from_rate : (x y : ℕ) → x < n → y < n → rate_in (from_rates n f) x y ≡ f x y
  from_rate x y l m = go (f x y) refl
    where
      go : (r : ℕ) → f x y ≡ r → rate_in (from_rates n f) x y ≡ f x y
      go zero e =
          rate_none (from_rates n f) x y (λ place a b d. (
          let r = in_rows n f x place l a b in
          let z = sym (column_of_lem n f x place l r) ∙ d in
          omega (arith, rw z at (in_row (f x) n r.q r.within).positive)
          ))
          ∙ sym e
      go (suc r) e =
          let q = length (columns_of y f x) in
          let p = start_of n f x + q in
          let w = has_within n f x y r m e in
          let c : column_at (from_rates n f) p ≡ y = column_is n f x q l w ∙ has_column n f x y r m e in
          let a : begins (from_rates n f) x ≤ p = omega (arith, start_is n f x (omega arith)) in
          let b : p < ends (from_rates n f) x = omega (arith, start_is n f (x + 1) (omega arith), start_next n f x) in
          rw c at (entry_rate from_accepted.sound x (rw (from_order n f) l) p a b) ∙ rate_is n f x q l w ∙ has_rate n f x y r m e
