-- The value of each rule's test from the facts that the code has in hand. Assumes nothing.
use Prim.Native.Nat.{ℕ, ◌+◌, ◌-◌, ◌<◌, ◌≤◌}
use mathlib.Core.Bool.{true, false, ◌&&◌}
use mathlib.Core.List.{List}
use mathlib.Core.Path.{◌≡◌, refl, ap, ◌∙◌}
use native.Mathlib.Omega.{arith}
use lib.Dec.{eqb, leb}
use lib.ListN.{length, get_or}
use borrow.Author.Tests.{eq-eqb, ne_eqb, lt-ltb, le-ltb, le-leb, lt-leb}
use Rattle.basics.specs.First.{first}
use Rattle.refusal.specs.Table.{accepts, refuses, of_chain, numbered}
use Rattle.basics.proofs.BoolLaws.{by_true, by_false}
use Rattle.chain.specs.Rows.{Rows}
use Rattle.chain.specs.Rules.{falls_at, starts_sound, entry_bad, first_bad, first_bad_row, columns_checked}
use Rattle.basics.proofs.BoolLaws.{and_yes, and_no, and_no_first, and_decides, or_yes, or_yes_first, or_no, or_decides}

-- ---- 3

module _ (n : ℕ) (starts : List ℕ) (k : ℕ) where
  pub starts_miscounted : (length starts ≡ n + 1 → ⊥) → starts_sound n starts k ≡ false
  unfolding starts_sound
  starts_miscounted h = and_no_first _ _ (and_no_first _ _ (and_no_first _ _ (ne_eqb _ _ h)))

  pub starts_not_zero : (get_or starts 0 0 ≡ 0 → ⊥) → starts_sound n starts k ≡ false
  unfolding starts_sound
  starts_not_zero h = and_no_first _ _ (and_no_first _ _ (and_no (eqb (length starts) (n + 1)) _ (ne_eqb _ _ h)))

  pub starts_fall : (first (falls_at starts) 0 n ≡ n → ⊥) → starts_sound n starts k ≡ false
  unfolding starts_sound
  starts_fall h = and_no_first _ _ (and_no (eqb (length starts) (n + 1) && eqb (get_or starts 0 0) 0) _ (ne_eqb _ _ h))

  pub starts_end : length starts ≡ n + 1 → get_or starts 0 0 ≡ 0 → first (falls_at starts) 0 n ≡ n → starts_sound n starts k ≡ eqb (get_or starts n 0) k
  unfolding starts_sound
  starts_end a b c = and_decides _ _ (and_yes _ _ (and_yes _ _ (eq-eqb _ _ a) (eq-eqb _ _ b)) (eq-eqb _ _ c))

-- ---- 4

module _ (n : ℕ) (columns : List ℕ) (row begin place : ℕ) where
  pub entry_high : n ≤ get_or columns place 0 → entry_bad n columns row begin place ≡ true
  unfolding entry_bad
  entry_high h = or_yes_first _ _ (or_yes_first _ _ (le-leb _ _ h))

  pub entry_own : get_or columns place 0 ≡ row → entry_bad n columns row begin place ≡ true
  unfolding entry_bad
  entry_own h = or_yes_first _ _ (or_yes (leb n (get_or columns place 0)) _ (eq-eqb _ _ h))

  module _ (low : get_or columns place 0 < n) (other : get_or columns place 0 ≡ row → ⊥) where
    pub entry_begin : place ≤ begin → entry_bad n columns row begin place ≡ false
    unfolding entry_bad
    entry_begin h = or_no _ _ (or_no _ _ (lt-leb _ _ low) (ne_eqb _ _ other)) (and_no_first _ _ (le-ltb _ _ h))

    pub entry_later : begin < place → entry_bad n columns row begin place ≡ leb (get_or columns place 0) (get_or columns (place - 1) 0)
    unfolding entry_bad
    entry_later h = or_decides _ _ (or_no _ _ (lt-leb _ _ low) (ne_eqb _ _ other)) ∙ and_decides _ _ (lt-ltb _ _ h)

pub columns_bad : (c : Rows) (row place : ℕ) → row < c.order → row ≡ first_bad_row c → place ≡ first_bad c row
    → refuses of_chain (numbered 4 row place) ≡ columns_checked c
unfolding columns_checked
columns_bad c row place l e q =
    by_true _ _ (lt-ltb (first_bad_row c) c.order (omega arith))
    (ap (λ (x : ℕ). refuses of_chain (numbered 4 row x)) q ∙ ap (λ (x : ℕ). refuses of_chain (numbered 4 x (first_bad c x))) e)

pub columns_sound : (c : Rows) (row : ℕ) → c.order ≤ row → first_bad_row c ≡ row → accepts (length c.columns) ≡ columns_checked c
unfolding columns_checked
columns_sound c row l e = by_false _ _ (le-ltb (first_bad_row c) c.order (omega arith)) refl
