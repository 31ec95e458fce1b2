-- The test `via` tells which state reaches which, so the theorems on closed sets hold for every chain. Assumes nothing.
use mathlib.Core.Bool.{Bool, false}
use mathlib.Core.Logic.{◌↔◌}
use mathlib.Core.Path.{◌≡◌, sym, ◌∙◌}
use Prim.Native.Nat.{ℕ, zero, ◌<◌}
use Rattle.markov.specs.Chain.{Rates, Reaches, Balanced, Balances, InProportion}
use Rattle.markov.specs.Weight.{weight}
use Rattle.markov.proofs.Balance.{weight_balanced}
use Rattle.reach.specs.Reach.{via}
use Rattle.reach.proofs.ViaLaws.{via_iff}
use Rattle.markov.specs.Closed.{Closed, OnlyClosed, HasAnswer, set_weight}
use Rattle.markov.proofs.SetBalance.{set_weight_balances, balanced_outside, set_weight_unique}
use Rattle.reach.proofs.Settled.{Tells, reaches_closed, reaches_only, has_answer_unless}

module _ (n : ℕ) (rate : Rates) where
  pub via_tells : Tells n rate (via rate n)
  via_tells = record { iff = λ i j hi hj. via_iff rate n i j hj }

  -- every state reaches a closed set
  pub some_closed : (i : ℕ) → i < n → (set : ℕ → Bool) × (c : Closed n rate set) × Reaches n rate i c.state
  some_closed = reaches_closed via_tells

  -- a chain of one state or more has an answer if and only if no two closed sets differ
  pub not_two : zero < n → HasAnswer n rate ↔ ((a b : ℕ → Bool) → Closed n rate a → Closed n rate b → (i : ℕ) → i < n → a i ≡ b i)
  not_two l = (λ h a b ca cb i m. h.one.only a ca i m ∙ sym (h.one.only b cb i m), has_answer_unless via_tells l)

  -- THE WHOLE CHAIN: the exact weights of its only closed set, 0 elsewhere, balance it, and whatever balances it is in proportion to
  -- them, so it is 0 outside the set
  module _ {set : ℕ → Bool} (o : OnlyClosed n rate set) where
    pub only_balances : Balances n rate (set_weight n rate set)
    only_balances = set_weight_balances o.closed

    pub only_unique : {w : ℕ → ℕ} → Balanced n rate w → InProportion n w (set_weight n rate set)
    only_unique b = set_weight_unique o.closed (reaches_only via_tells o) b

    pub only_outside : {w : ℕ → ℕ} → Balanced n rate w → (i : ℕ) → i < n → set i ≡ false → w i ≡ 0
    only_outside b = balanced_outside o.closed (reaches_only via_tells o) b

    -- so are the sums over the spanning trees of the whole chain
    pub whole_weight : InProportion n (weight n rate) (set_weight n rate set)
    whole_weight = only_unique (weight_balanced n rate)
