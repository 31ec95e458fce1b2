-- Lists one after another: how long they are, and what stands at a place. Assumes nothing.
use Prim.Native.Nat.{ℕ, zero, suc, ◌+◌, ◌-◌, ◌<◌, ◌≤◌}
use mathlib.Core.List.{List, [], ◌++◌}
use mathlib.Core.Logic.{⊎_elim}
use mathlib.Core.Path.{◌≡◌, refl, sym, ap₂, ◌∙◌}
use native.Mathlib.Decide.{dec_lt}
use native.Mathlib.Nat.{eq-or-lt_of_le}
use native.Mathlib.Numerals.{add-one}
use native.Mathlib.Omega.{arith}
use lib.ListN.{length, get_or, length-append, get_or-append}
use lib.Seq.{get_or-append-add}
use Rattle.basics.specs.Sum.{sum}
use Rattle.basics.proofs.SumLaws.{sum_zero, sum_last, sum_cong}
use Rattle.chain.specs.Sound.{AllPositive}
use Rattle.from_rates.specs.FromRates.{together}

pub together_cong : (n : ℕ) {lists lists' : ℕ → List ℕ} → ((i : ℕ) → i < n → lists i ≡ lists' i) → together n lists ≡ together n lists'
unfolding together
together_cong zero h = refl
together_cong (suc n) h = ap₂ ◌++◌ (together_cong n (λ i l. h i (omega arith))) (h n (omega arith))

-- no list, and one list more
pub together_none : (lists : ℕ → List ℕ) → together 0 lists ≡ []
unfolding together
together_none lists = refl

pub together_more : (x : ℕ) (lists : ℕ → List ℕ) → together (x + 1) lists ≡ together x lists ++ lists x
unfolding together
together_more x lists = rw add-one

-- ---- how long

pub together_length : (n : ℕ) (lists : ℕ → List ℕ) → length (together n lists) ≡ sum n (λ i. length (lists i))
unfolding together
together_length zero lists = sym (sum_zero (λ i. length (lists i)))
together_length (suc n) lists = omega (arith, length-append (together n lists) (lists n), together_length n lists, sum_last n (λ i. length (lists i)))

pub more_length : (x : ℕ) (lists : ℕ → List ℕ) → length (together (x + 1) lists) ≡ length (together x lists) + length (lists x)
more_length x lists = rw (together_more x lists) (length-append (together x lists) (lists x))

-- lists as long as others, one by one
pub together_even : (n : ℕ) (lists lists' : ℕ → List ℕ) → ((i : ℕ) → i < n → length (lists i) ≡ length (lists' i))
    → length (together n lists) ≡ length (together n lists')
together_even n lists lists' h = together_length n lists ∙ sum_cong n h ∙ sym (together_length n lists')

pub together_mono : (x n : ℕ) (lists : ℕ → List ℕ) → x ≤ n → length (together x lists) ≤ length (together n lists)
unfolding together
together_mono x zero lists l = let e : x ≡ 0 = omega arith in rw e (omega arith)
together_mono x (suc n) lists l =
    ⊎_elim (λ e. rw e (omega arith)) (λ m. omega (arith, together_mono x n lists (omega arith), length-append (together n lists) (lists n))) (eq-or-lt_of_le l)

-- ---- what stands at a place

-- the place q of list i
pub together_at : (n : ℕ) (lists : ℕ → List ℕ) (i q : ℕ) → i < n → q < length (lists i)
    → get_or (together n lists) (length (together i lists) + q) 0 ≡ get_or (lists i) q 0
unfolding together
together_at zero lists i q l m = absurd (omega arith)
together_at (suc n) lists i q l m =
    ⊎_elim
    (λ e. let d : i ≡ n = omega arith in rw d (get_or-append-add (together n lists) (lists n) q 0))
    (λ b.
    let d : i < n = omega arith in
    let up : length (together i lists) + q < length (together n lists) = omega (arith, more_length i lists, together_mono (i + 1) n lists (omega arith)) in
    get_or-append (together n lists) (lists n) 0 (length (together i lists) + q) up ∙ together_at n lists i q d m)
    (eq-or-lt_of_le l)

-- all numbers are positive if those of each list are
pub together_positive : (n : ℕ) (lists : ℕ → List ℕ) → ((i : ℕ) → i < n → AllPositive (lists i)) → AllPositive (together n lists)
unfolding together
together_positive zero lists h p l = absurd (omega arith)
together_positive (suc n) lists h p l =
    elim (dec_lt p (length (together n lists))) [
      | yes m ↦ rw (get_or-append (together n lists) (lists n) 0 p m) (together_positive n lists (λ i b. h i (omega arith)) p m)
      | no d ↦ (
          let q = p - length (together n lists) in
          let e : length (together n lists) + q ≡ p = omega arith in
          let v : get_or (together n lists ++ lists n) p 0 ≡ get_or (lists n) q 0 = rw e at (get_or-append-add (together n lists) (lists n) q 0) in
          rw v (h n (omega arith) q (omega (arith, length-append (together n lists) (lists n))))
          )
    ]
