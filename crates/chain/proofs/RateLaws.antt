-- The rates that a chain in rows describes: an entry's own rate at its column, 0 where the row has no entry. Assumes nothing.
use Prim.Native.Nat.{ℕ, zero, suc, ◌+◌, ◌-◌, ◌<◌, ◌≤◌}
use mathlib.Core.Bool.{Bool}
use mathlib.Core.Logic.{◌≢◌}
use mathlib.Core.Path.{◌≡◌, refl, sym, ◌∙◌}
use native.Mathlib.Decide.{ℕ_discrete, dec_lt}
use native.Mathlib.Omega.{arith}
use lib.ListN.{get_or}
use lib.Dec.{eqb}
use borrow.Author.Tests.{eq-eqb, ne_eqb, eqb-true, eqb-false}
use Rattle.std.specs.Prelude.{Option, Some, None}
use Rattle.basics.specs.First.{found}
use Rattle.basics.proofs.FirstLaws.{first_is, first_none}
use Rattle.basics.proofs.FoundLaws.{found_some, found_none}
use Rattle.basics.proofs.TermLaws.{Positive, sum_none, sum_only, sum_term}
use Rattle.chain.specs.Rows.{Rows, begins, ends, column_at}
use Rattle.chain.specs.Sound.{Sound}
use Rattle.chain.specs.Meaning.{adds, rate_in}

-- ---- entries

-- row i has an entry of positive rate at column j
pub record Move (c : Rows) (i j : ℕ) : Type 0 where
  pub place : ℕ
  pub from : begins c i ≤ place
  pub to : place < ends c i
  pub column : column_at c place ≡ j
  pub positive : 0 < get_or c.rates place 0

-- what the entry q places after the row's first adds to the rate to j
abbrev term : Rows → ℕ → ℕ → ℕ → ℕ
term c i j q = adds c.columns c.rates j (begins c i + q)

module _ (c : Rows) (j place : ℕ) where
  adds_own : column_at c place ≡ j → adds c.columns c.rates j place ≡ get_or c.rates place 0
  adds_own e = rw (eq-eqb _ _ e)

  adds_other : column_at c place ≢ j → adds c.columns c.rates j place ≡ 0
  adds_other d = rw (ne_eqb _ _ d)

module _ (c : Rows) (i j : ℕ) where
  -- a column that the row has not gives 0
  pub rate_none : ((place : ℕ) → begins c i ≤ place → place < ends c i → column_at c place ≢ j) → rate_in c i j ≡ 0
  unfolding rate_in
  rate_none h = sum_none _ (λ q l. adds_other c j _ (h _ (omega arith) (omega arith)))

  pub rate_move : 0 < rate_in c i j → Move c i j
  unfolding rate_in
  rate_move h = of_term (sum_term _ _ h)
    where
      of_term : Positive (ends c i - begins c i) (term c i j) → Move c i j
      of_term t =
          let p = begins c i + t.at in
          elim (ℕ_discrete (column_at c p) j) [
            | yes e ↦ record {
              place = p;
              from = omega arith;
              to = omega (arith, t.below);
              column = e;
              positive = rw (adds_own c j p e) at t.positive;
            }
            | no d ↦ (let z : term c i j t.at ≡ 0 = adds_other c j p d in absurd (omega (arith, t.positive)))
          ]

module _ {c : Rows} (s : Sound c) (i : ℕ) (l : i < c.order) where
  column_next : (place : ℕ) → begins c i ≤ place → place + 1 < ends c i → column_at c place < column_at c (place + 1)
  column_next place a b =
      let q : place + 1 - 1 ≡ place = omega arith in
      rw q at ((s.columns_rule.entry i (place + 1) l (omega arith) b).above (omega arith))

  -- within a row columns rise strictly, not only from one place to the next
  column_rise : (d place : ℕ) → begins c i ≤ place → place + d + 1 < ends c i → column_at c place < column_at c (place + d + 1)
  column_rise zero place a b = let q : place + 0 ≡ place = omega arith in rw q (column_next place a (omega arith))
  column_rise (suc d) place a b =
      let q : place + suc d ≡ place + d + 1 = omega arith in
      rw q (omega (arith, column_rise d place a (omega arith), column_next (place + d + 1) (omega arith) (omega arith)))

  -- so a row has at most one entry at a column
  pub column_less : (p q : ℕ) → begins c i ≤ p → p < q → q < ends c i → column_at c p < column_at c q
  column_less p q a b z =
      let e : p + (q - p - 1) + 1 ≡ q = omega arith in
      rw e at (column_rise (q - p - 1) p a (omega arith))

  pub column_once : (p q : ℕ) → begins c i ≤ p → p < ends c i → begins c i ≤ q → q < ends c i → p ≢ q → column_at c p ≢ column_at c q
  column_once p q a b z d h e =
      elim (dec_lt p q) [
        | yes m ↦ omega (arith, column_less p q a m d)
        | no m ↦ (let m' : q < p = omega arith in omega (arith, column_less q p z m' b))
      ]

  -- an entry's rate is the rate of the move from its row to its column
  pub entry_rate : (place : ℕ) → begins c i ≤ place → place < ends c i → rate_in c i (column_at c place) ≡ get_or c.rates place 0
  unfolding rate_in
  entry_rate place a b =
      let begin = begins c i in
      let j = column_at c place in
      let e : begin + (place - begin) ≡ place = omega arith in
      sum_only _ (place - begin) {f = term c i j} (omega arith)
      (λ q m d. adds_other c j (begin + q) (column_once (begin + q) place (omega arith) (omega arith) a b (λ h. d (omega arith))))
      ∙ rw e (adds_own c j place refl)

  -- no move leads from a state to itself
  pub rate_own : rate_in c i i ≡ 0
  rate_own = rate_none c i i (λ place a b. (s.columns_rule.entry i place l a b).not_row)

  -- no move leads to a state that there is not
  pub rate_beyond : (j : ℕ) → c.order ≤ j → rate_in c i j ≡ 0
  rate_beyond j h = rate_none c i j (λ place a b e. omega (arith, (s.columns_rule.entry i place l a b).below))

-- ---- the look-up of one rate

-- whether the entry at a place stands at column j
abbrev pub column_is : Rows → ℕ → ℕ → Bool
column_is c j place = eqb (column_at c place) j

module _ (c : Rows) (i j : ℕ) where
  pub look_up_none : {r : Option ℕ} → begins c i ≤ ends c i → r ≡ found (column_is c j) (begins c i) (ends c i) → r ≡ None → 0 ≡ rate_in c i j
  look_up_none l e n = sym (rate_none c i j other)
    where
      other : (place : ℕ) → begins c i ≤ place → place < ends c i → column_at c place ≢ j
      other place a b = eqb-false _ _ (first_none (column_is c j) _ _ l (found_none (column_is c j) _ _ l (sym e ∙ n)) place a b)

  pub look_up_some : {r : Option ℕ} (place : ℕ) → Sound c → i < c.order → r ≡ found (column_is c j) (begins c i) (ends c i) → r ≡ Some place
      → (place < ends c i) × (get_or c.rates place 0 ≡ rate_in c i j)
  look_up_some place s l e t =
      let k = found_some (column_is c j) (begins c i) (ends c i) place (sym e ∙ t) in
      let f = first_is (column_is c j) (begins c i) (ends c i) (s.starts_rule.rises i l) in
      let own : column_at c place ≡ j = eqb-true _ _ (rw k.0 (f.found (omega (arith, k.0, k.1)))) in
      (k.1, sym (rw own at (entry_rate s i l place (omega (arith, k.0, f.low)) k.1)))
