-- The numbers of the places given to their states, from the top state down. Assumes nothing.
use mathlib.Core.Bool.{Bool, true, false}
use mathlib.Core.Logic.{⊎_elim}
use mathlib.Core.Path.{◌≡◌, sym, ap, ◌∙◌}
use Prim.Native.Nat.{ℕ, ◌+◌, ◌≤◌, ◌<◌}
use native.Mathlib.Nat.{eq-or-lt_of_le}
use native.Mathlib.Omega.{arith}
use Rattle.scaled.specs.declared.Scaled.{Scaled}
use Rattle.scaled.specs.Scaled.{zero_number}
use Rattle.markov.specs.Closed.{size, spread}
use Rattle.markov.proofs.Members.{size_le}
use Rattle.markov.proofs.SetBalance.{spread_in, spread_out}
use Rattle.kernel.specs.Slices.{Slices, number_at}
use Rattle.kernel.specs.Kernel.{Sized}
use Rattle.kernel.specs.Inner.{Placed}
use Rattle.kernel.proofs.Places.{still_sized, placed_value}
use Rattle.members.specs.Inner.{Given}
use Rattle.members.proofs.Sizes.{size_next_out}

-- what the states get where s holds the numbers of the places
abbrev given : (ℕ → Bool) → Slices → ℕ → Scaled
given set s = spread set zero_number (number_at s)

-- ---- one turn

pub turn_in : {set : ℕ → Bool} {i p : ℕ} {x : Scaled} {s s' : Slices} → Placed i x s s' → set i ≡ true → p ≡ size i set → x ≡ number_at s p
    → Given set i p s s'
turn_in {set} {i} {s = s} h t q e = record { below = q; put = placed_value h (e ∙ ap (number_at s) q ∙ sym (spread_in set zero_number (number_at s) i t)) }

pub turn_out : {set : ℕ → Bool} {i p : ℕ} {x : Scaled} {s s' : Slices} → Placed i x s s' → set i ≡ false → p ≡ size (i + 1) set → x ≡ zero_number
    → Given set i p s s'
turn_out {set} {i} {s = s} h t q e =
    record { below = q ∙ size_next_out set i t; put = placed_value h (e ∙ sym (spread_out set zero_number (number_at s) i t)) }

-- ---- all turns

-- the states from k on have their numbers, `left` states of the set are below them, and the places there hold what they held
pub record SpreadFrom (n : ℕ) (set : ℕ → Bool) (k left : ℕ) (s s' : Slices) : Type 0 where
  pub sized : Sized n s'
  pub below : left ≡ size k set
  pub given_at : (i : ℕ) → k ≤ i → i < n → number_at s' i ≡ given set s i
  pub kept_at : (i : ℕ) → i < k → number_at s' i ≡ number_at s i

-- a state's place is not above its number, so what it gets hangs on the places up to its number alone
given_same : (set : ℕ → Bool) (i : ℕ) (s s' : Slices) → ((p : ℕ) → p ≤ i → number_at s' p ≡ number_at s p) → given set s' i ≡ given set s i
unfolding spread
given_same set i s s' h = rw (h (size i set) (size_le i set))

pub spread_go : {n : ℕ} {set : ℕ → Bool} {k i left p : ℕ} {s s₁ s₂ : Slices} → k ≡ i + 1 → SpreadFrom n set k left s s₁ → Given set i p s₁ s₂
    → SpreadFrom n set i p s s₂
spread_go {set = set} {i = i} {s = s} {s₁ = s₁} q h g = record {
  sized = still_sized h.sized g.put.kept;
  below = g.below;
  given_at = λ j b l. ⊎_elim
      (λ (z : i ≡ j). rw (← z) (g.put.same ∙ given_same set i s s₁ (λ a b. h.kept_at a (omega arith))))
      (λ z. g.put.other j (λ w. omega arith) ∙ h.given_at j (omega arith) l)
      (eq-or-lt_of_le b);
  kept_at = λ j l. g.put.other j (λ w. omega arith) ∙ h.kept_at j (omega arith);
}
