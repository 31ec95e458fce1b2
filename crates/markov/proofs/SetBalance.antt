-- The exact weights of the closed set, 0 elsewhere, balance the whole chain; and where every state reaches the set, whatever balances
-- the whole chain is in proportion to them. Assumes nothing.
use mathlib.Core.Bool.{Bool, true, false}
use mathlib.Core.Path.{◌≡◌, refl, sym, ap, ap₂, subst⁻¹, ◌∙◌}
use Prim.Native.Nat.{ℕ, zero, ◌*◌, ◌<◌}
use native.Mathlib.Nat.{zero-mul, mul-zero}
use native.Mathlib.Omega.{arith}
use Rattle.basics.specs.Sum.{sum}
use Rattle.basics.proofs.SumLaws.{sum_cong}
use Rattle.markov.specs.Chain.{Rates, Reaches, Balanced, Balances, InProportion}
use Rattle.markov.specs.Weight.{weight}
use Rattle.basics.proofs.TermLaws.{sum_none}
use Rattle.markov.proofs.Balance.{weight_balanced}
use Rattle.markov.proofs.Unique.{balanced_unique}
use Rattle.markov.proofs.Positive.{weight_pos}
use Rattle.markov.specs.Closed.{Closed, size, member, alone, spread, set_weight}
use Rattle.markov.proofs.Members.{member_below, member_in, place_member, place_below, member_place, sum_members}
use Rattle.markov.proofs.ClosedLaws.{closed_kept, no_way_out, alone_irreducible}
use Rattle.markov.proofs.Outside.{outside_zero}

-- ---- a list given to the states of the set

module _ {X : Type 0} (set : ℕ → Bool) (nought : X) (f : ℕ → X) where
  pub spread_in : (i : ℕ) → set i ≡ true → spread set nought f i ≡ f (size i set)
  unfolding spread
  spread_in i t = rw t

  pub spread_out : (i : ℕ) → set i ≡ false → spread set nought f i ≡ nought
  unfolding spread
  spread_out i t = rw t

  pub spread_member : (n p : ℕ) → p < size n set → spread set nought f (member n set p) ≡ f p
  spread_member n p l = spread_in (member n set p) (member_in n set p l) ∙ ap f (place_member n set p l)

  -- what holds of every place of the set, and of `nought`, holds of every state
  pub spread_all : (P : X → Type 0) (n : ℕ) → P nought → ((p : ℕ) → p < size n set → P (f p)) → (i : ℕ) → i < n → P (spread set nought f i)
  spread_all P n z h i l = go (set i) refl
    where
      go : (b : Bool) → set i ≡ b → P (spread set nought f i)
      go true t = subst⁻¹ P (spread_in i t) (h (size i set) (place_below n set i l t))
      go false t = subst⁻¹ P (spread_out i t) z

pub sum_spread : (n : ℕ) (set : ℕ → Bool) (f : ℕ → ℕ) → sum n (spread set 0 f) ≡ sum (size n set) f
sum_spread n set f = sum_members n set (spread set 0 f) (λ i l t. spread_out set 0 f i t) ∙ sum_cong (size n set) (λ p l. spread_member set 0 f n p l)

-- ---- balance

module _ {n : ℕ} {rate : Rates} {set : ℕ → Bool} (c : Closed n rate set) where
  -- the whole row of a state of the set is its row in the set taken alone
  row_sum : (j : ℕ) → j < n → set j ≡ true → sum n (λ k. rate j k) ≡ sum (size n set) (λ q. rate j (member n set q))
  row_sum j hj t = sum_members n set (rate j) (λ k hk f. no_way_out c j k hj hk t f)

  -- what balances the set taken alone balances the whole chain, with 0 elsewhere
  pub spread_balanced : {v : ℕ → ℕ} → Balanced (size n set) (alone n set rate) v → Balanced n rate (spread set 0 v)
  unfolding alone
  spread_balanced {v} b = record { at = λ j hj. flow j ∙ go j hj (set j) refl }
    where
      flow : (j : ℕ) → sum n (λ i. spread set 0 v i * rate i j) ≡ sum (size n set) (λ p. v p * rate (member n set p) j)
      flow j =
          sum_members n set (λ i. spread set 0 v i * rate i j) (λ i l t. ap (λ (x : ℕ). x * rate i j) (spread_out set 0 v i t) ∙ zero-mul (rate i j))
          ∙ sum_cong (size n set) (λ p l. ap (λ (x : ℕ). x * rate (member n set p) j) (spread_member set 0 v n p l))

      go : (j : ℕ) → j < n → (t : Bool) → set j ≡ t → sum (size n set) (λ p. v p * rate (member n set p) j) ≡ spread set 0 v j * sum n (λ k. rate j k)
      go j hj true t =
          (rw (member_place n set j hj t) at (b.at (size j set) (place_below n set j hj t)))
          ∙ ap₂ ◌*◌ (sym (spread_in set 0 v j t)) (sym (row_sum j hj t))
      go j hj false t =
          sum_none (size n set) (λ p l. ap (λ (x : ℕ). v p * x) (no_way_out c (member n set p) j (member_below n set p l) hj (member_in n set p l) t) ∙ mul-zero (v p))
          ∙ sym (ap (λ (x : ℕ). x * sum n (λ k. rate j k)) (spread_out set 0 v j t) ∙ zero-mul (sum n (λ k. rate j k)))

  pub set_weight_balanced : Balanced n rate (set_weight n rate set)
  unfolding set_weight
  set_weight_balanced = spread_balanced (weight_balanced (size n set) (alone n set rate))

  pub set_weight_pos : (i : ℕ) → i < n → set i ≡ true → zero < set_weight n rate set i
  unfolding set_weight
  set_weight_pos i hi t =
      rw (spread_in set 0 (weight (size n set) (alone n set rate)) i t)
      (weight_pos (size n set) (alone n set rate) (alone_irreducible c) (size i set) (place_below n set i hi t))

  -- the exact weights are whole numbers, not all 0, that balance the whole chain
  pub set_weight_balances : Balances n rate (set_weight n rate set)
  set_weight_balances = record {
    balanced = set_weight_balanced;
    state = c.state;
    state_below = c.below;
    not_zero = set_weight_pos c.state c.below c.inside;
  }

  -- ---- uniqueness

  -- what balances the whole chain and is 0 outside the set balances the set taken alone
  pub alone_balanced : {w : ℕ → ℕ} → Balanced n rate w → ((i : ℕ) → i < n → set i ≡ false → w i ≡ 0)
      → Balanced (size n set) (alone n set rate) (λ p. w (member n set p))
  unfolding alone
  alone_balanced {w} b z = record { at = at }
    where
      at : (q : ℕ) → q < size n set
          → sum (size n set) (λ p. w (member n set p) * rate (member n set p) (member n set q))
          ≡ w (member n set q) * sum (size n set) (λ k. rate (member n set q) (member n set k))
      at q l =
          let j = member n set q in
          sym (sum_members n set (λ i. w i * rate i j) (λ i hi t. ap (λ (x : ℕ). x * rate i j) (z i hi t) ∙ zero-mul (rate i j)))
          ∙ b.at j (member_below n set q l)
          ∙ ap (λ (x : ℕ). w j * x) (row_sum j (member_below n set q l) (member_in n set q l))

  module _ (to_set : (i : ℕ) → i < n → Reaches n rate i c.state) where
    pub balanced_outside : {w : ℕ → ℕ} → Balanced n rate w → (i : ℕ) → i < n → set i ≡ false → w i ≡ 0
    balanced_outside {w} b i hi t = outside_zero n rate set (closed_kept c) w b hi c.inside t (to_set i hi)

    -- two lists that balance the whole chain are in proportion
    pub closed_unique : {v w : ℕ → ℕ} → Balanced n rate v → Balanced n rate w → InProportion n v w
    closed_unique {v} {w} bv bw = record { at = λ i j hi hj. go i j hi hj (set i) (set j) refl refl }
      where
        go : (i j : ℕ) → i < n → j < n → (a b : Bool) → set i ≡ a → set j ≡ b → v i * w j ≡ v j * w i
        go i j hi hj true true s t =
            rw (member_place n set i hi s, member_place n set j hj t) at
            ((balanced_unique (size n set) (alone n set rate) (alone_irreducible c)
            (alone_balanced bv (balanced_outside bv)) (alone_balanced bw (balanced_outside bw))
            ).at (size i set) (size j set) (place_below n set i hi s) (place_below n set j hj t))
        go i j hi hj true false s t = rw (balanced_outside bv j hj t, balanced_outside bw j hj t) (omega arith)
        go i j hi hj false b s t = rw (balanced_outside bv i hi s, balanced_outside bw i hi s) (omega arith)

    pub set_weight_unique : {w : ℕ → ℕ} → Balanced n rate w → InProportion n w (set_weight n rate set)
    set_weight_unique b = closed_unique b set_weight_balanced
