-- Where every state is in the set, the set taken alone is the chain itself, so all is as without it; and where every state reaches
-- every other, that set is closed and the only one. Assumes nothing.
use mathlib.Core.Bool.{Bool, true}
use mathlib.Core.Path.{◌≡◌, refl, ap, ap₂, fun_ext, ◌∙◌}
use Prim.Native.Nat.{ℕ, zero, suc, ◌-◌, ◌<◌, suc-le-suc}
use native.Mathlib.Omega.{arith}
use Rattle.basics.specs.Sum.{sum}
use Rattle.markov.specs.Chain.{Rates, Irreducible}
use Rattle.basics.specs.Below.{count}
use Rattle.markov.specs.Weight.{weight}
use Rattle.markov.specs.Elimination.{Ops, weights, shares}
use Rattle.markov.specs.Closed.{Closed, HasAnswer, size, member, last, alone, spread, set_weight, set_weights, set_shares}
use Rattle.markov.proofs.ClosedLaws.{only_closed}
use Rattle.markov.proofs.SetBalance.{spread_in}

pub size_full : (n : ℕ) (set : ℕ → Bool) → ((i : ℕ) → i < n → set i ≡ true) → size n set ≡ n
unfolding size sum count
size_full zero set f = refl
size_full (suc n) set f = rw (f zero (omega arith)) (omega (arith, size_full n (λ i. set (suc i)) (λ i l. f (suc i) (suc-le-suc l))))

pub member_full : (n : ℕ) (set : ℕ → Bool) → ((i : ℕ) → i < n → set i ≡ true) → (p : ℕ) → member n set p ≡ p
unfolding member
member_full zero set f p = refl
member_full (suc n) set f zero = rw (f zero (omega arith))
member_full (suc n) set f (suc p) = rw (f zero (omega arith)) (ap suc (member_full n (λ i. set (suc i)) (λ i l. f (suc i) (suc-le-suc l)) p))

module _ (n : ℕ) (set : ℕ → Bool) (full : (i : ℕ) → i < n → set i ≡ true) where
  pub last_full : last n set ≡ n - 1
  unfolding last
  last_full = member_full n set full (size n set - 1) ∙ ap (λ (x : ℕ). x - 1) (size_full n set full)

  pub alone_full : {X : Type 0} (a : ℕ → ℕ → X) → alone n set a ≡ a
  unfolding alone
  alone_full a = fun_ext (λ p. fun_ext (λ q. ap₂ a (member_full n set full p) (member_full n set full q)))

  spread_full : {X : Type 0} (nought : X) (f : ℕ → X) (i : ℕ) → i < n → spread set nought f i ≡ f i
  spread_full nought f i l = spread_in set nought f i (full i l) ∙ ap f (size_full i set (λ j m. full j (omega arith)))

  pub set_weight_full : (rate : Rates) (i : ℕ) → i < n → set_weight n rate set i ≡ weight n rate i
  unfolding set_weight
  set_weight_full rate i l = spread_full 0 _ i l ∙ ap₂ (λ (r : ℕ) (a : Rates). weight r a i) (size_full n set full) (alone_full rate)

  module _ {X : Type 0} (O : Ops X) (a : ℕ → ℕ → X) where
    pub set_weights_full : (i : ℕ) → i < n → set_weights O n set a i ≡ weights O (n - 1) a i
    unfolding set_weights
    set_weights_full i l = spread_full O.nought _ i l ∙ ap₂ (λ (r : ℕ) (b : ℕ → ℕ → X). weights O (r - 1) b i) (size_full n set full) (alone_full a)

    pub set_shares_full : (i : ℕ) → i < n → set_shares O n set a i ≡ shares O (n - 1) a i
    unfolding set_shares
    set_shares_full i l = spread_full O.nought _ i l ∙ ap₂ (λ (r : ℕ) (b : ℕ → ℕ → X). shares O (r - 1) b i) (size_full n set full) (alone_full a)

module _ {n : ℕ} {rate : Rates} (c : Irreducible n rate) where
  -- a closed set has every state
  pub irreducible_full : {set : ℕ → Bool} → Closed n rate set → (i : ℕ) → i < n → set i ≡ true
  irreducible_full s i l = s.nothing_outside s.state i s.below l s.inside (c.path s.state i s.below l)

  pub irreducible_closed : zero < n → Closed n rate (λ i. true)
  irreducible_closed l = record {
    state = zero;
    below = l;
    inside = refl;
    others = λ i j hi hj _ _. c.path i j hi hj;
    nothing_outside = λ i j hi hj _ _. refl;
  }

  pub irreducible_answer : zero < n → HasAnswer n rate
  irreducible_answer l =
      let s = irreducible_closed l in
      record { set = λ i. true; one = only_closed s (λ i hi. c.path i s.state hi s.below) }
