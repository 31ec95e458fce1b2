-- One turn of each loop that builds the masks, in plain variables. Assumes nothing.
use Prim.Native.Nat.{ℕ, zero, suc, ◌+◌, ◌-◌, ◌<◌, ◌≤◌}
use mathlib.Core.Bool.{Bool, true, false, cond, ◌&&◌, ◌||◌, or_assoc, or-false}
use mathlib.Core.List.{List}
use mathlib.Core.Logic.{◌≢◌}
use mathlib.Core.Path.{◌≡◌, refl, sym, ap, ap₂, ◌∙◌}
use native.Mathlib.Decide.{dec_lt}
use native.Mathlib.Numerals.{add-one}
use native.Mathlib.Omega.{arith}
use lib.Bits.{bit_or}
use lib.Dec.{eqb, ltb}
use lib.ListN.{length, get_or, set}
use borrow.Author.Tests.{lt-ltb, le-ltb}
use Rattle.basics.specs.Sum.{sum}
use Rattle.basics.proofs.SumLaws.{sum_zero, sum_last}
use Rattle.chain.specs.Rows.{Rows, begins, ends}
use Rattle.chain.specs.Meaning.{adds, rate_in}
use Rattle.basics.proofs.BoolLaws.{and_no_first, and_decides}
use Rattle.reach.specs.Reach.{via, stands, Hold}
use Rattle.reach.specs.Inner.{via_below}
use Rattle.reach.proofs.MaskLaws.{stands_or, stands_zero, hold_set, zeros, hold_zeros}

-- what is added under a test
added : (a b c : Bool) → b ≡ true → (a || c) ≡ (a || (b && c))
added a b c t = rw t

not_added : (a b c : Bool) → b ≡ false → a ≡ (a || (b && c))
not_added a b c t = rw t (sym (or-false a))

module _ (row through k : ℕ) where
  pub close_yes : stands row k ≡ true → (j : ℕ) → stands (bit_or row through) j ≡ (stands row j || (stands row k && stands through j))
  close_yes t j = stands_or row through j ∙ added (stands row j) (stands row k) (stands through j) t

  pub close_no : stands row k ≡ false → (j : ℕ) → stands row j ≡ (stands row j || (stands row k && stands through j))
  close_no t j = not_added (stands row j) (stands row k) (stands through j) t

module _ (mask column rate : ℕ) where
  pub entry_yes : (r : ℕ) → 0 < rate → ((j : ℕ) → stands r j ≡ (stands mask j || eqb column j))
      → (j : ℕ) → stands r j ≡ (stands mask j || (ltb 0 rate && eqb column j))
  entry_yes r l h j = h j ∙ added (stands mask j) (ltb 0 rate) (eqb column j) (lt-ltb 0 rate l)

  pub entry_no : rate ≤ 0 → (j : ℕ) → stands mask j ≡ (stands mask j || (ltb 0 rate && eqb column j))
  entry_no l j = not_added (stands mask j) (ltb 0 rate) (eqb column j) (le-ltb 0 rate l)

-- ---- the entries of a row

sum_positive : (a b : ℕ) → ltb 0 (a + b) ≡ (ltb 0 a || ltb 0 b)
sum_positive zero b = let e : 0 + b ≡ b = omega arith in rw e
sum_positive (suc a) b = lt-ltb 0 (suc a + b) (omega arith) ∙ rw (lt-ltb 0 (suc a) (omega arith))

adds_positive : (columns rates : List ℕ) (j place : ℕ) → ltb 0 (adds columns rates j place) ≡ (ltb 0 (get_or rates place 0) && eqb (get_or columns place 0) j)
adds_positive columns rates j place = go (eqb (get_or columns place 0) j)
  where
    go : (b : Bool) → ltb 0 (cond b (get_or rates place 0) 0) ≡ (ltb 0 (get_or rates place 0) && b)
    go true = at (ltb 0 (get_or rates place 0))
      where
        at : (x : Bool) → x ≡ (x && true)
        at true = refl
        at false = refl
    go false = at (ltb 0 (get_or rates place 0))
      where
        at : (x : Bool) → false ≡ (x && false)
        at true = refl
        at false = refl

-- the mask holds the row's own state and the entries from `begin` up to, not including, `place`
pub record RowMask (columns rates : List ℕ) (row begin place mask : ℕ) : Type 0 where
  pub bit : (j : ℕ) → stands mask j ≡ (eqb row j || ltb 0 (sum (place - begin) (λ q. adds columns rates j (begin + q))))

module _ (columns rates : List ℕ) (row begin : ℕ) where
  pub row_none : (mask : ℕ) → ((j : ℕ) → stands mask j ≡ (stands 0 j || eqb row j)) → RowMask columns rates row begin begin mask
  row_none mask h = record { bit = own }
    where
      own : (j : ℕ) → stands mask j ≡ (eqb row j || ltb 0 (sum (begin - begin) (λ q. adds columns rates j (begin + q))))
      own j =
          let z : begin - begin ≡ 0 = omega arith in
          rw (z, sum_zero (λ q. adds columns rates j (begin + q)))
          (h j ∙ ap (λ (b : Bool). b || eqb row j) (stands_zero j) ∙ sym (or-false (eqb row j)))

  pub row_more : {place mask : ℕ} (r : ℕ) → begin ≤ place → RowMask columns rates row begin place mask
      → ((j : ℕ) → stands r j ≡ (stands mask j || (ltb 0 (get_or rates place 0) && eqb (get_or columns place 0) j)))
      → RowMask columns rates row begin (place + 1) r
  row_more {place} {mask} r l h new = record { bit = more }
    where
      more : (j : ℕ) → stands r j ≡ (eqb row j || ltb 0 (sum (place + 1 - begin) (λ q. adds columns rates j (begin + q))))
      more j =
          let f : ℕ → ℕ = λ q. adds columns rates j (begin + q) in
          let e : place + 1 - begin ≡ suc (place - begin) = omega arith in
          let q : begin + (place - begin) ≡ place = omega arith in
          let t : ltb 0 (f (place - begin)) ≡ (ltb 0 (get_or rates place 0) && eqb (get_or columns place 0) j) = rw q (adds_positive columns rates j place) in
          rw (e, sum_last (place - begin) f, sum_positive (sum (place - begin) f) (f (place - begin)), t)
          (new j ∙ ap (λ (b : Bool). b || (ltb 0 (get_or rates place 0) && eqb (get_or columns place 0) j)) (h.bit j)
          ∙ or_assoc (eqb row j) (ltb 0 (sum (place - begin) f)) (ltb 0 (get_or rates place 0) && eqb (get_or columns place 0) j))

-- ---- the masks before the first step

below_more : (p i : ℕ) → p ≢ i → ltb p i ≡ ltb p (i + 1)
below_more p i d =
    elim (dec_lt p i) [
      | yes l ↦ (lt-ltb p i l ∙ sym (lt-ltb p (i + 1) (omega arith)))
      | no l ↦ (le-ltb p i (omega arith) ∙ sym (le-ltb p (i + 1) (omega arith)))
    ]

-- the masks of the states below n hold the paths by way of states below k, and no other bit
pub record Reached (n : ℕ) (c : Rows) (k : ℕ) (masks : List ℕ) : Type 0 where
  pub held : Hold masks (via_below n (rate_in c) k)

pub first_none : (c : Rows) → Reached 0 c 0 zeros
first_none c = record { held = hold_zeros _ (λ i j. and_no_first _ _ (le-ltb i 0 (omega arith))) }

pub first_more : {i : ℕ} {c : Rows} {masks : List ℕ} → Reached i c 0 masks → (mask : ℕ) → i < length masks
    → ((j : ℕ) → stands mask j ≡ (eqb i j || ltb 0 (sum (ends c i - begins c i) (λ q. adds c.columns c.rates j (begins c i + q)))))
    → Reached (i + 1) c 0 (set masks i mask)
unfolding via rate_in
first_more {i} {c} {masks} h mask l row = record {
  held = hold_set masks i mask (via_below i (rate_in c) 0) (via_below (i + 1) (rate_in c) 0) l h.held
      (λ j. row j ∙ sym (and_decides _ _ (lt-ltb i (i + 1) (omega arith))))
      (λ p j d. ap (λ (b : Bool). b && via (rate_in c) 0 p j) (below_more p i d));
}

-- ---- one step of the closure

-- what a state's mask has to be after the step at k, whose mask is `through`
abbrev pub stepped : ℕ → ℕ → List ℕ → ℕ → ℕ → Bool
stepped k through old p j = stands (get_or old p 0) j || (stands (get_or old p 0) k && stands through j)

-- the test of the masks where the step is done for the states below i
abbrev stepped_to : ℕ → ℕ → List ℕ → ℕ → ℕ → ℕ → Bool
stepped_to k through old i p j = cond (ltb p i) (stepped k through old p j) (stands (get_or old p 0) j)

pub record Pass (k through : ℕ) (old : List ℕ) (i : ℕ) (next : List ℕ) : Type 0 where
  pub held : Hold next (stepped_to k through old i)

pub pass_none : (k through : ℕ) (old : List ℕ) → Pass k through old 0 old
pass_none k through old = record { held = record { bit = λ p j. rw (le-ltb p 0 (omega arith)) } }

module _ {k through : ℕ} {old : List ℕ} {i : ℕ} {next : List ℕ} (h : Pass k through old i next) where
  kept : (j : ℕ) → stands (get_or next i 0) j ≡ stands (get_or old i 0) j
  kept j = h.held.bit i j ∙ ap (λ (b : Bool). cond b (stepped k through old i j) (stands (get_or old i 0) j)) (le-ltb i i (omega arith))

  pub pass_more : (mask : ℕ) → i < length next
      → ((j : ℕ) → stands mask j ≡ (stands (get_or next i 0) j || (stands (get_or next i 0) k && stands through j)))
      → Pass k through old (i + 1) (set next i mask)
  pass_more mask l new = record {
    held = hold_set next i mask (stepped_to k through old i) (stepped_to k through old (i + 1)) l h.held
        (λ j. new j
        ∙ ap₂ (λ (a b : Bool). a || (b && stands through j)) (kept j) (kept k)
        ∙ sym (ap (λ (b : Bool). cond b (stepped k through old i j) (stands (get_or old i 0) j)) (lt-ltb i (i + 1) (omega arith))))
        (λ p j d. ap (λ (b : Bool). cond b (stepped k through old p j) (stands (get_or old p 0) j)) (below_more p i d));
  }

  past : (p j : ℕ) → ((x : ℕ) → stands (get_or old p 0) x ≡ false) → i ≤ p → stepped_to k through old i p j ≡ stepped k through old p j
  past p j z m =
      ap (λ (b : Bool). cond b (stepped k through old p j) (stands (get_or old p 0) j)) (le-ltb p i m)
      ∙ z j ∙ sym (ap₂ (λ (a b : Bool). a || (b && stands through j)) (z j) (z k))

  -- where no bit stands in the masks from i on, the step is done for all states
  pub pass_all : ((p j : ℕ) → i ≤ p → stands (get_or old p 0) j ≡ false) → Hold next (stepped k through old)
  pass_all z =
      record { bit = λ p j. h.held.bit p j ∙ elim (dec_lt p i) [ yes m ↦ rw (lt-ltb p i m) | no m ↦ past p j (λ x. z p x (omega arith)) (omega arith) ] }

-- no bit stands in the masks from n on
pub beyond : {n : ℕ} {c : Rows} {k : ℕ} {masks : List ℕ} → Reached n c k masks → (i j : ℕ) → n ≤ i → stands (get_or masks i 0) j ≡ false
beyond {n} h i j l = h.held.bit i j ∙ and_no_first _ _ (le-ltb i n l)

-- the step at k < n takes the paths by way of states below k to those below k + 1
pub close_more : {n : ℕ} {c : Rows} {k : ℕ} {old : List ℕ} → Reached n c k old → (new : List ℕ) → k < n
    → Hold new (stepped k (get_or old k 0) old) → Reached n c (k + 1) new
unfolding via
close_more {n} {c} {k} {old} h new l s =
    rw (add-one k) (record { held = record { bit = λ i j. s.bit i j ∙ parts i j ∙ joined (ltb i n) _ _ _ } })
  where
    from_k : (j : ℕ) → stands (get_or old k 0) j ≡ via (rate_in c) k k j
    from_k j = h.held.bit k j ∙ and_decides _ _ (lt-ltb k n l)

    parts : (i j : ℕ) → stepped k (get_or old k 0) old i j
        ≡ ((ltb i n && via (rate_in c) k i j)
        || ((ltb i n && via (rate_in c) k i k) && via (rate_in c) k k j))
    parts i j = rw (h.held.bit i j, h.held.bit i k, from_k j)

    joined : (b x y z : Bool) → ((b && x) || ((b && y) && z)) ≡ (b && (x || (y && z)))
    joined true x y z = refl
    joined false x y z = refl
