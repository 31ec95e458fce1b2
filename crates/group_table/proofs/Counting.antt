-- How often a test holds below k: at none, at two, at one. Assumes nothing.
use Prim.Native.Nat.{ℕ, zero, suc, ◌<◌, ◌≤◌}
use mathlib.Core.Bool.{Bool, true, false}
use mathlib.Core.Logic.{⊎_elim}
use mathlib.Core.Path.{◌≡◌, refl}
use native.Mathlib.Nat.{eq-or-lt_of_le}
use native.Mathlib.Omega.{arith}
use Rattle.basics.specs.Sum.{sum}
use Rattle.basics.specs.Below.{count}
use Rattle.basics.proofs.SumLaws.{sum_zero, sum_last, sum_pos}
use Rattle.basics.proofs.TermLaws.{sum_term}

counted : {b : Bool} → b ≡ true → count b ≡ 1
unfolding count
counted e = rw e

counts : (b : Bool) → 0 < count b → b ≡ true
unfolding count
counts true p = refl
counts false p = absurd (omega arith)

-- the test holds at two numbers below k
pub record Twice (test : ℕ → Bool) (k : ℕ) : Type 0 where
  pub one : ℕ
  pub other : ℕ
  pub rising : one < other
  pub below : other < k
  pub at_one : test one ≡ true
  pub at_other : test other ≡ true

module _ (test : ℕ → Bool) where
  abbrev many : ℕ → ℕ
  many k = sum k (λ r. count (test r))

  pub once_of : (k r : ℕ) → r < k → test r ≡ true → 0 < many k
  once_of k r l t = sum_pos k (λ r. count (test r)) r l (omega (arith, counted t))

  -- a positive count has a number at which the test holds
  pub once_at : (k : ℕ) → 0 < many k → (r : ℕ) × (r < k) × (test r ≡ true)
  once_at k p = let t = sum_term k (λ r. count (test r)) p in (t.at, t.below, counts _ t.positive)

  pub twice_of : (k : ℕ) → Twice test k → 2 ≤ many k
  twice_of zero t = absurd (omega (arith, t.below))
  twice_of (suc k) t =
      ⊎_elim
      (λ (e : t.other ≡ k).
      let l : t.one < k = omega (arith, t.rising) in
      let h : test k ≡ true = rw (← e) t.at_other in
      omega (arith, sum_last k (λ r. count (test r)), once_of k t.one l t.at_one, counted h))
      (λ (l : t.other < k).
      let h : Twice test k =
      record { one = t.one; other = t.other; rising = t.rising; below = l; at_one = t.at_one; at_other = t.at_other } in
      omega (arith, sum_last k (λ r. count (test r)), twice_of k h))
      (eq-or-lt_of_le (omega (arith, t.below)))

  pub twice_at : (k : ℕ) → 2 ≤ many k → Twice test k
  twice_at zero p = absurd (omega (arith, sum_zero (λ r. count (test r))))
  twice_at (suc k) p = go (test k) refl (twice_at k)
    where
      go : (b : Bool) → test k ≡ b → (2 ≤ many k → Twice test k) → Twice test (suc k)
      go true e ih =
          let a = once_at k (omega (arith, sum_last k (λ r. count (test r)), counted e)) in
          record { one = a.0; other = k; rising = a.1; below = omega arith; at_one = a.2; at_other = e }
      go false e ih =
          let z : count (test k) ≡ 0 = unfold count in rw e in
          let t = ih (omega (arith, sum_last k (λ r. count (test r)))) in
          record { one = t.one; other = t.other; rising = t.rising; below = omega (arith, t.below); at_one = t.at_one; at_other = t.at_other }
