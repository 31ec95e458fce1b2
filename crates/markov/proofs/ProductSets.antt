-- The joint chain of two parts: a joint state reaches another if and only if each part does; where both parts have a closed set that all
-- their states reach, its only closed set is that of the pairs, and its shares are the products of the parts' shares. Assumes nothing.
use mathlib.Core.Bool.{Bool, true, false, ◌&&◌}
use mathlib.Core.Logic.{◌↔◌}
use mathlib.Core.Path.{◌≡◌, refl, sym, ◌∙◌}
use Prim.Native.Nat.{ℕ, zero, ◌+◌, ◌*◌, ◌/◌, ◌%◌, ◌<◌}
use native.Mathlib.Omega.{arith}
use lib.Arith.{digits_div, digits_mod, digits_lt}
use lib.Dec.{eqb}
use borrow.Author.Tests.{eq-eqb, eqb-true}
use Rattle.basics.specs.Sum.{sum}
use Rattle.basics.specs.Below.{count}
use Rattle.basics.proofs.BoolLaws.{and_yes, both}
use Rattle.markov.specs.Chain.{Rates, Reaches, here, move}
use Rattle.markov.specs.Closed.{Closed, OnlyClosed, set_weight}
use Rattle.markov.specs.Product.{joint_rate, joint_set}
use Rattle.markov.proofs.ClosedLaws.{reaches_trans, only_closed}
use Rattle.markov.proofs.SetBalance.{set_weight_balanced, set_weight_unique}
use Rattle.markov.proofs.Product.{IsJoint, first_below, second_below, by_parts, by_pairs, rate_is, products_balanced, product_shares}

-- a map of states under which each move is a path maps paths to paths
reaches_map : {n m : ℕ} {r s : Rates} (to : ℕ → ℕ) → ((i k : ℕ) → i < n → k < n → zero < r i k → Reaches m s (to i) (to k))
    → {i k : ℕ} → i < n → Reaches n r i k → Reaches m s (to i) (to k)
reaches_map to step l here = here
reaches_map to step l (move {i = i} {k = k} m p t) = reaches_trans (step i k l m p) (reaches_map to step m t)

count_same : (i : ℕ) → count (eqb i i) ≡ 1
unfolding count
count_same i = rw (eq-eqb i i refl)

-- a joint state is in the set if and only if its parts are in the parts' sets
module _ (b : ℕ) (S T : ℕ → Bool) (i j : ℕ) (hj : j < b) where
  set_is : joint_set b S T (i * b + j) ≡ (S i && T j)
  unfolding joint_set
  set_is = rw (digits_div i hj, digits_mod i hj)

  in_both : joint_set b S T (i * b + j) ≡ true → (S i ≡ true) × (T j ≡ true)
  in_both t = both (S i) (T j) (sym set_is ∙ t)

  in_set : S i ≡ true → T j ≡ true → joint_set b S T (i * b + j) ≡ true
  in_set s t = set_is ∙ and_yes (S i) (T j) s t

module _ {a b : ℕ} {f g h : Rates} (J : IsJoint a b f g h) where
  -- ---- reaching

  -- the first part's path, the second standing still, and the other way round
  reach_first : (j : ℕ) → j < b → {i k : ℕ} → i < a → Reaches a f i k → Reaches (a * b) h (i * b + j) (k * b + j)
  reach_first j hj = reaches_map (λ i. i * b + j) (λ i k hi hk p.
      move (digits_lt hk hj) (rw (rate_is J i j k j hi hj hk hj, count_same j) (omega arith)) here)

  reach_second : (i : ℕ) → i < a → {j m : ℕ} → j < b → Reaches b g j m → Reaches (a * b) h (i * b + j) (i * b + m)
  reach_second i hi = reaches_map (λ j. i * b + j) (λ j m hj hm p.
      move (digits_lt hi hm) (rw (rate_is J i j i m hi hj hi hm, count_same i) (omega arith)) here)

  -- a joint move is a path of each part: a move of one, the other standing still
  one_moves : (x y : ℕ) → x < a * b → y < a * b → zero < h x y → Reaches a f (x / b) (y / b) × Reaches b g (x % b) (y % b)
  unfolding joint_rate count
  one_moves x y hx hy p = go (eqb (x % b) (y % b)) (eqb (x / b) (y / b)) refl refl (rw (J.at x y hx hy) at p)
    where
      go : (s t : Bool) → eqb (x % b) (y % b) ≡ s → eqb (x / b) (y / b) ≡ t
          → zero < count s * f (x / b) (y / b) + count t * g (x % b) (y % b)
          → Reaches a f (x / b) (y / b) × Reaches b g (x % b) (y % b)
      go true true s t l = (rw (eqb-true (x / b) (y / b) t) here, rw (eqb-true (x % b) (y % b) s) here)
      go true false s t l = (move {i = x / b} {k = y / b} (first_below a b y hy) (omega (arith, l)) here, rw (eqb-true (x % b) (y % b) s) here)
      go false true s t l = (rw (eqb-true (x / b) (y / b) t) here, move {i = x % b} {k = y % b} (second_below a b y hy) (omega (arith, l)) here)
      go false false s t l = absurd (omega (arith, l))

  -- A JOINT STATE REACHES ANOTHER IF AND ONLY IF EACH PART'S STATE REACHES THE OTHER'S
  pub joint_reaches : (i j k m : ℕ) → i < a → j < b → k < a → m < b
      → Reaches (a * b) h (i * b + j) (k * b + m) ↔ (Reaches a f i k × Reaches b g j m)
  joint_reaches i j k m hi hj hk hm = (
    λ r. (
      rw (digits_div i hj, digits_div k hm) at (reaches_map (λ x. x / b) (λ x y hx hy p. (one_moves x y hx hy p).0) (digits_lt hi hj) r),
      rw (digits_mod i hj, digits_mod k hm) at (reaches_map (λ x. x % b) (λ x y hx hy p. (one_moves x y hx hy p).1) (digits_lt hi hj) r),
    ),
    λ w. reaches_trans (reach_first j hj hi w.0) (reach_second k hk hj w.1),
  )

  -- ---- closed sets

  module _ {S T : ℕ → Bool} (cA : Closed a f S) (cB : Closed b g T) where
    -- the pairs of states of two closed sets are a closed set
    pub joint_closed : Closed (a * b) h (joint_set b S T)
    joint_closed = record {
      state = cA.state * b + cB.state;
      below = digits_lt cA.below cB.below;
      inside = in_set b S T cA.state cB.state cB.below cA.inside cB.inside;
      others = by_pairs a b (λ x y. joint_set b S T x ≡ true → joint_set b S T y ≡ true → Reaches (a * b) h x y) (λ i j k m hi hj hk hm s t.
          let p = in_both b S T i j hj s in
          let q = in_both b S T k m hm t in
          (joint_reaches i j k m hi hj hk hm).1 (cA.others i k hi hk p.0 q.0, cB.others j m hj hm p.1 q.1));
      nothing_outside = by_pairs a b (λ x y. joint_set b S T x ≡ true → Reaches (a * b) h x y → joint_set b S T y ≡ true) (λ i j k m hi hj hk hm s r.
          let p = in_both b S T i j hj s in
          let w = (joint_reaches i j k m hi hj hk hm).0 r in
          in_set b S T k m hm (cA.nothing_outside i k hi hk p.0 w.0) (cB.nothing_outside j m hj hm p.1 w.1));
    }

    module _ (rA : (i : ℕ) → i < a → Reaches a f i cA.state) (rB : (j : ℕ) → j < b → Reaches b g j cB.state) where
      -- every joint state reaches it where every state of a part reaches the part's
      pub joint_reached : (x : ℕ) → x < a * b → Reaches (a * b) h x joint_closed.state
      unfolding joint_closed
      joint_reached = by_parts a b (λ x. Reaches (a * b) h x (cA.state * b + cB.state)) (λ i j hi hj.
          (joint_reaches i j cA.state cB.state hi hj cA.below cB.below).1 (rA i hi, rB j hj))

      -- THE ONLY CLOSED SET OF THE JOINT CHAIN IS THAT OF THE PAIRS
      pub joint_only : OnlyClosed (a * b) h (joint_set b S T)
      joint_only = only_closed joint_closed joint_reached

      -- ITS SHARES ARE THE PRODUCTS OF THE PARTS' SHARES, divisors multiplied across
      pub joint_shares : (i j : ℕ) → i < a → j < b
          → set_weight (a * b) h (joint_set b S T) (i * b + j) * (sum a (set_weight a f S) * sum b (set_weight b g T))
          ≡ set_weight a f S i * set_weight b g T j * sum (a * b) (set_weight (a * b) h (joint_set b S T))
      joint_shares = product_shares a b (set_weight a f S) (set_weight b g T) (set_weight (a * b) h (joint_set b S T))
          (set_weight_unique joint_closed joint_reached (products_balanced J (set_weight a f S) (set_weight b g T) (set_weight_balanced cA) (set_weight_balanced cB)))
