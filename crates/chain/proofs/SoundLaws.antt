-- Each rule's test holds if and only if the rule's facts do; every row lies within the columns. Assumes nothing.
use Prim.Native.Nat.{ℕ, zero, suc, ◌+◌, ◌-◌, ◌<◌, ◌≤◌}
use mathlib.Core.Bool.{Bool, true, false, ◌&&◌, ◌||◌}
use mathlib.Core.Logic.{⊎_elim}
use mathlib.Core.Path.{◌≡◌, refl, ◌∙◌}
use native.Mathlib.Nat.{eq-or-lt_of_le}
use native.Mathlib.Omega.{arith}
use lib.Dec.{eqb, ltb, leb}
use lib.ListN.{length}
use borrow.Author.Tests.{eqb-true, eqb-false, ltb-true, ltb-false, leb-true, leb-false, eq-eqb, le-leb, lt-ltb, lt-leb}
use Rattle.basics.specs.First.{first}
use Rattle.basics.proofs.BoolLaws.{both}
use Rattle.basics.proofs.FirstLaws.{IsFirst, first_is, first_none}
use Rattle.chain.specs.Rows.{Rows, begins, ends, column_at}
use Rattle.chain.specs.Rules.{order_sound, falls_at, starts_sound, entry_bad, bad_at}
use Rattle.chain.specs.Sound.{SoundOrder, SoundStarts, SoundEntry}
use Rattle.basics.proofs.BoolLaws.{and_yes, neither}
use Rattle.chain.proofs.RulesLaws.{starts_end, entry_begin, entry_later}

-- ---- 1

pub order_true : (n : ℕ) → order_sound n ≡ true → SoundOrder n
order_true n h = let t = both (ltb 0 n) _ h in record { low = ltb-true _ _ t.0; high = leb-true _ _ t.1 }

pub order_of_lem : (n : ℕ) → SoundOrder n → order_sound n ≡ true
order_of_lem n h = and_yes _ _ (lt-ltb _ _ h.low) (le-leb _ _ h.high)

-- ---- 3

module _ (c : Rows) where
  pub starts_true : starts_sound c.order c.starts (length c.columns) ≡ true → SoundStarts c
  unfolding starts_sound
  starts_true h =
      let z = both (eqb (length c.starts) (c.order + 1) && eqb (begins c 0) 0 && eqb (first (falls_at c.starts) 0 c.order) c.order) _ h in
      let y = both (eqb (length c.starts) (c.order + 1) && eqb (begins c 0) 0) _ z.0 in
      let x = both (eqb (length c.starts) (c.order + 1)) _ y.0 in
      record {
        count = eqb-true _ _ x.0;
        first = eqb-true _ _ x.1;
        rises = λ i l. ltb-false _ _ (first_none _ 0 c.order (omega arith) (eqb-true _ _ y.1) i (omega arith) l);
        last = eqb-true _ _ z.1;
      }

  pub starts_of : SoundStarts c → starts_sound c.order c.starts (length c.columns) ≡ true
  starts_of h = starts_end _ _ _ h.count h.first no_fall ∙ eq-eqb _ _ h.last
    where
      fall : ℕ
      fall = first (falls_at c.starts) 0 c.order

      search : IsFirst (falls_at c.starts) 0 c.order fall
      search = first_is (falls_at c.starts) 0 c.order (omega arith)

      stop : fall < c.order → ⊥
      stop l = let z : ends c fall < begins c fall = ltb-true _ _ (search.found l) in omega (arith, h.rises fall l)

      no_fall : fall ≡ c.order
      no_fall = ⊎_elim (λ e. e) (λ l. absurd (stop l)) (eq-or-lt_of_le search.high)

-- the starts rise
starts_rise : {c : Rows} → SoundStarts c → (d i : ℕ) → i + d ≤ c.order → begins c i ≤ begins c (i + d)
starts_rise h zero i l = let q : i + 0 ≡ i = omega arith in rw q (omega arith)
starts_rise h (suc d) i l =
    let q : i + suc d ≡ i + 1 + d = omega arith in
    rw q (omega (arith, h.rises i (omega arith), starts_rise h d (i + 1) (omega arith)))

pub start_before : {c : Rows} → SoundStarts c → (i j : ℕ) → i ≤ j → j ≤ c.order → begins c i ≤ begins c j
start_before h i j a b = let q : i + (j - i) ≡ j = omega arith in rw q at (starts_rise h (j - i) i (omega arith))

-- so every start lies within the columns
pub start_within : {c : Rows} → SoundStarts c → (i : ℕ) → i ≤ c.order → begins c i ≤ length c.columns
start_within {c} h i l = omega (arith, start_before h i c.order l (omega arith), h.last)

-- ---- 4

module _ (c : Rows) (row place : ℕ) where
  pub entry_false : bad_at c row place ≡ false → SoundEntry c row place
  unfolding entry_bad
  entry_false h =
      let b = neither (leb c.order (column_at c place) || eqb (column_at c place) row) _ h in
      let a = neither (leb c.order (column_at c place)) _ b.0 in
      record { below = leb-false _ _ a.0; not_row = eqb-false _ _ a.1; above = λ l. leb-false _ _ (rw (lt-ltb _ _ l) at b.1) }

  pub entry_of : SoundEntry c row place → bad_at c row place ≡ false
  entry_of h = at_begin (ltb (begins c row) place) refl
    where
      at_begin : (b : Bool) → ltb (begins c row) place ≡ b → bad_at c row place ≡ false
      at_begin true t =
          let l = ltb-true _ _ t in
          entry_later _ _ _ _ _ h.below h.not_row l ∙ lt-leb _ _ (h.above l)
      at_begin false t = entry_begin _ _ _ _ _ h.below h.not_row (ltb-false _ _ t)
