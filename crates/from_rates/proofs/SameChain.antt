-- A chain in rows is fixed by its rates: equal rates make the same chain, and the rates of an accepted chain make this chain again.
-- Assumes nothing.
use Prim.Native.Nat.{ℕ, zero, suc, ◌+◌, ◌-◌, ◌<◌, ◌≤◌}
use mathlib.Core.List.{List, [], ◌∷◌, ◌++◌, append-nil}
use mathlib.Core.Logic.{◌≢◌, ⊎_elim}
use mathlib.Core.Path.{◌≡◌, refl, sym, ap, ◌∙◌}
use native.Mathlib.Decide.{ℕ_discrete, dec_lt}
use native.Mathlib.Nat.{eq-or-lt_of_le}
use native.Mathlib.Numerals.{add-one}
use native.Mathlib.Omega.{arith}
use lib.ListN.{length, get_or, take, drop, length-drop}
use lib.Seq.{length-take-le, take-suc, take-add, take-length, get_or-drop}
use Rattle.basics.specs.Lists.{table}
use Rattle.basics.proofs.FillLaws.{table_is, table_length, table_at}
use Rattle.markov.specs.Chain.{Rates}
use Rattle.chain.specs.Rows.{Rows, begins, ends, column_at}
use Rattle.chain.specs.Sound.{SoundStarts, Accepted}
use Rattle.chain.specs.Meaning.{rate_in}
use Rattle.chain.proofs.RateLaws.{rate_none, entry_rate, column_less}
use Rattle.chain.proofs.SoundLaws.{start_within}
use Rattle.from_rates.specs.FromRates.{together, entry, columns_of, rates_of, start_of, from_rates}
use Rattle.from_rates.proofs.TogetherLaws.{together_cong}

-- ---- equal rates

pub from_cong : (n : ℕ) (f g : Rates) → ((x y : ℕ) → x < n → y < n → f x y ≡ g x y) → from_rates n f ≡ from_rates n g
unfolding from_rates
from_cong n f g h = rw (starts, together_cong n columns, together_cong n rates)
  where
    columns : (x : ℕ) → x < n → columns_of n f x ≡ columns_of n g x
    columns x l = together_cong n (λ y m. ap (λ (r : ℕ). entry r y) (h x y l m))

    rates : (x : ℕ) → x < n → rates_of n f x ≡ rates_of n g x
    rates x l = together_cong n (λ y m. ap (λ (r : ℕ). entry r r) (h x y l m))

    starts : table (n + 1) (start_of n f) ≡ table (n + 1) (start_of n g)
    starts =
        table_is 0 (n + 1) (table (n + 1) (start_of n f)) (start_of n g) (table_length 0 (n + 1) (start_of n f))
        (λ i l. table_at 0 (n + 1) (start_of n f) i l ∙ ap length (together_cong i (λ x m. columns x (omega arith))))

-- ---- the rates of a chain

-- of the numbers from place s on, one more
take_next : (values : List ℕ) (s q : ℕ) → s + q < length values → take (suc q) (drop s values) ≡ take q (drop s values) ++ (get_or values (s + q) 0 ∷ [])
take_next values s q l = take-suc (drop s values) q 0 (omega (arith, length-drop s values)) ∙ rw (get_or-drop s values q 0)

pub entry_one : (rate value : ℕ) → 0 < rate → entry rate value ≡ value ∷ []
entry_one zero value l = absurd (omega arith)
entry_one (suc rate) value l = refl

module _ {c : Rows} (t : Accepted c) (x : ℕ) (l : x < c.order) where
  -- the first q entries of row x are those with a column below k, and their columns and rates are what the rates from x make below k
  record Below (k : ℕ) : Type 0 where
    q : ℕ
    within : begins c x + q ≤ ends c x
    low : (p : ℕ) → begins c x ≤ p → p < begins c x + q → column_at c p < k
    high : (p : ℕ) → begins c x + q ≤ p → p < ends c x → k ≤ column_at c p
    columns_are : columns_of k (rate_in c) x ≡ take q (drop (begins c x) c.columns)
    rates_are : rates_of k (rate_in c) x ≡ take q (drop (begins c x) c.rates)

  -- column k too: the next entry has it, or none of the row
  module _ (k : ℕ) (b : Below k) where
    abbrev next : ℕ
    next = begins c x + b.q

    has : next < ends c x → column_at c next ≡ k → Below (suc k)
    unfolding together
    has m e =
        let inside : next < length c.columns = omega (arith, start_within t.sound.starts_rule (x + 1) (omega arith)) in
        let rate : rate_in c x k ≡ get_or c.rates next 0 = rw e at (entry_rate t.sound x l next (omega arith) m) in
        let positive : 0 < rate_in c x k = omega (arith, t.positive next (omega (arith, t.sound.lengths))) in
        record {
          q = suc b.q;
          within = omega arith;
          low = λ p a z. low_more e p a (omega arith);
          high = λ p a z. omega (arith, column_less t.sound x l next p (omega arith) (omega arith) z);
          columns_are = rw (take_next c.columns (begins c x) b.q inside, e, entry_one (rate_in c x k) k positive, b.columns_are);
          rates_are = rw (take_next c.rates (begins c x) b.q (omega (arith, t.sound.lengths)), ← rate, entry_one (rate_in c x k) (rate_in c x k) positive, b.rates_are);
        }
      where
        low_more : column_at c next ≡ k → (p : ℕ) → begins c x ≤ p → p ≤ next → column_at c p < suc k
        low_more e p a z = ⊎_elim (λ q. (let v : column_at c p ≡ k = rw q e in omega arith)) (λ q. omega (arith, b.low p a q)) (eq-or-lt_of_le z)

    not_has : (next < ends c x → column_at c next ≢ k) → Below (suc k)
    unfolding together
    not_has d =
        let none : rate_in c x k ≡ 0 = rate_none c x k absent in
        record {
          q = b.q;
          within = b.within;
          low = λ p a z. omega (arith, b.low p a z);
          high = high_more;
          columns_are = rw (none, append-nil) b.columns_are;
          rates_are = rw (none, append-nil) b.rates_are;
        }
      where
        high_more : (p : ℕ) → next ≤ p → p < ends c x → k < column_at c p
        high_more p a z =
            let above : k < column_at c next = omega (arith, d (omega arith), b.high next (omega arith) (omega arith)) in
            ⊎_elim (λ q. rw (← q) above) (λ q. omega (arith, column_less t.sound x l next p (omega arith) q z)) (eq-or-lt_of_le a)

        absent : (p : ℕ) → begins c x ≤ p → p < ends c x → column_at c p ≢ k
        absent p a z e =
            elim (dec_lt p next) [
              | yes m ↦ omega (arith, b.low p a m)
              | no m ↦ omega (arith, high_more p (omega arith) z)
            ]

  below : (k : ℕ) → Below k
  unfolding together
  below zero = record {
    q = 0;
    within = omega (arith, t.sound.starts_rule.rises x l);
    low = λ p a b. absurd (omega arith);
    high = λ p a b. omega arith;
    columns_are = refl;
    rates_are = refl;
  }
  below (suc k) =
      let b = below k in
      elim (dec_lt (next k b) (ends c x)) [
        | yes m ↦ (elim (ℕ_discrete (column_at c (next k b)) k) [
          | yes e ↦ has k b m e
          | no d ↦ not_has k b (λ _. d)
        ])
        | no d ↦ not_has k b (λ m. absurd (d m))
      ]

  -- the whole row
  full : (below c.order).q ≡ ends c x - begins c x
  full =
      let b = below c.order in
      elim (dec_lt (begins c x + b.q) (ends c x)) [
        | yes m ↦ (let p = begins c x + b.q in absurd (omega (arith, b.high p (omega arith) m, (t.sound.columns_rule.entry x p l (omega arith) m).below)))
        | no d ↦ omega (arith, b.within)
      ]

  columns_of_lem : columns_of c.order (rate_in c) x ≡ take (ends c x - begins c x) (drop (begins c x) c.columns)
  columns_of_lem = rw full at (below c.order).columns_are

  rates_of_lem : rates_of c.order (rate_in c) x ≡ take (ends c x - begins c x) (drop (begins c x) c.rates)
  rates_of_lem = rw full at (below c.order).rates_are

-- the rows of a list, one after another
rows_together : {c : Rows} → SoundStarts c → (values : List ℕ) (lists : ℕ → List ℕ)
    → ((x : ℕ) → x < c.order → lists x ≡ take (ends c x - begins c x) (drop (begins c x) values))
    → (x : ℕ) → x ≤ c.order → together x lists ≡ take (begins c x) values
unfolding together
rows_together s values lists h zero l = rw s.first
rows_together {c} s values lists h (suc x) l =
    let e : begins c x + (ends c x - begins c x) ≡ ends c x = omega (arith, s.rises x l) in
    rw (rows_together s values lists h x (omega arith), h x l, ← take-add (begins c x) (ends c x - begins c x) values, e, add-one)

pub from_same : {c : Rows} → Accepted c → from_rates c.order (rate_in c) ≡ c
unfolding from_rates
from_same {c} t = rw (starts, columns, rates)
  where
    rule : SoundStarts c
    rule = t.sound.starts_rule

    in_turn : (x : ℕ) → x ≤ c.order → together x (columns_of c.order (rate_in c)) ≡ take (begins c x) c.columns
    in_turn = rows_together rule c.columns (columns_of c.order (rate_in c)) (columns_of_lem t)

    columns : together c.order (columns_of c.order (rate_in c)) ≡ c.columns
    columns = in_turn c.order (omega arith) ∙ rw rule.last (take-length c.columns)

    rates : together c.order (rates_of c.order (rate_in c)) ≡ c.rates
    rates =
        rows_together rule c.rates (rates_of c.order (rate_in c)) (rates_of_lem t) c.order (omega arith)
        ∙ rw (rule.last, t.sound.lengths) (take-length c.rates)

    starts : table (c.order + 1) (start_of c.order (rate_in c)) ≡ c.starts
    starts =
        sym
        (table_is 0 (c.order + 1) c.starts (start_of c.order (rate_in c)) rule.count
        (λ i l.
        let m : i ≤ c.order = omega arith in
        rw (in_turn i m) (sym (length-take-le (begins c i) c.columns (start_within rule i m)))))
