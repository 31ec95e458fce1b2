-- The set taken alone, its weights and its shares depend only on which states below n are in the set. Assumes nothing.
use mathlib.Core.Bool.{Bool, cond}
use mathlib.Core.Path.{◌≡◌, refl, ap, ap₂, fun_ext, ◌∙◌}
use Prim.Native.Nat.{ℕ, zero, suc, ◌-◌, ◌<◌, suc-le-suc}
use native.Mathlib.Omega.{arith}
use Rattle.basics.proofs.SumLaws.{sum_cong}
use Rattle.basics.specs.Below.{count}
use Rattle.markov.specs.Chain.{Rates}
use Rattle.markov.specs.Weight.{weight}
use Rattle.markov.specs.Elimination.{Ops, weights, shares}
use Rattle.markov.specs.Closed.{size, member, alone, spread, set_weight, set_weights, set_shares}

abbrev pub Same : ℕ → (ℕ → Bool) → (ℕ → Bool) → Type 0
Same n a b = (i : ℕ) → i < n → a i ≡ b i

pub size_cong : (n : ℕ) {a b : ℕ → Bool} → Same n a b → size n a ≡ size n b
unfolding size
size_cong n e = sum_cong n (λ i l. ap count (e i l))

pub member_cong : (n : ℕ) {a b : ℕ → Bool} → Same n a b → (p : ℕ) → member n a p ≡ member n b p
unfolding member
member_cong zero e p = refl
member_cong (suc n) {a} {b} e zero =
    ap₂ (λ (t : Bool) (m : ℕ). cond t zero (suc m)) (e zero (omega arith)) (member_cong n {a = λ i. a (suc i)} {b = λ i. b (suc i)} (λ i l. e (suc i) (suc-le-suc l)) zero)
member_cong (suc n) {a} {b} e (suc p) =
    ap suc (member_cong n {a = λ i. a (suc i)} {b = λ i. b (suc i)} (λ i l. e (suc i) (suc-le-suc l)) (cond (a zero) p (suc p))
    ∙ ap (λ (t : Bool). member n (λ i. b (suc i)) (cond t p (suc p))) (e zero (omega arith)))

module _ (n : ℕ) {a b : ℕ → Bool} (e : Same n a b) where
  pub alone_cong : {X : Type 0} (x : ℕ → ℕ → X) → alone n a x ≡ alone n b x
  unfolding alone
  alone_cong x = fun_ext (λ p. fun_ext (λ q. ap₂ x (member_cong n e p) (member_cong n e q)))

  spread_cong : {X : Type 0} (nought : X) {f g : ℕ → X} → f ≡ g → (i : ℕ) → i < n → spread a nought f i ≡ spread b nought g i
  unfolding spread
  spread_cong nought {f} {g} h i l = rw (e i l, size_cong i {a = a} {b = b} (λ j m. e j (omega arith)), h)

  -- the exact weights, and those of an elimination
  pub set_weight_cong : (rate : Rates) (i : ℕ) → i < n → set_weight n rate a i ≡ set_weight n rate b i
  unfolding set_weight
  set_weight_cong rate = spread_cong 0 (ap₂ weight (size_cong n e) (alone_cong rate))

  module _ {X : Type 0} (O : Ops X) (x : ℕ → ℕ → X) where
    pub set_weights_cong : (i : ℕ) → i < n → set_weights O n a x i ≡ set_weights O n b x i
    unfolding set_weights
    set_weights_cong = spread_cong O.nought (ap₂ (λ (r : ℕ) (y : ℕ → ℕ → X). weights O (r - 1) y) (size_cong n e) (alone_cong x))

    pub set_shares_cong : (i : ℕ) → i < n → set_shares O n a x i ≡ set_shares O n b x i
    unfolding set_shares
    set_shares_cong = spread_cong O.nought (ap₂ (λ (r : ℕ) (y : ℕ → ℕ → X). shares O (r - 1) y) (size_cong n e) (alone_cong x))
