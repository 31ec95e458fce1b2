-- How large and how small the entries of the next matrix are, from those of this one: one step. Assumes nothing.
use mathlib.Core.Path.{◌≡◌, refl}
use mathlib.Core.Logic.{◌≢◌, ◌⊎◌, inl, inr}
use Prim.Native.Nat.{ℕ, zero, suc, ◌+◌, ◌*◌, ◌^◌, ◌≤◌, ◌<◌, suc-le-suc}
use native.Mathlib.Nat.{le_trans, mul-le-mul, mul-le-mul_left, mul-le-mul_right, le_of_mul-le-mul_left, mul-pos}
use native.Mathlib.Omega.{arith}
use lib.Pow.{pow-add}
use Rattle.basics.specs.Near.{Factor, AtMost, Near, Mild}
use Rattle.basics.proofs.SumLaws.{term_le_sum}
use Rattle.basics.proofs.NearLaws.{at_most_of_le, at_most_trans, at_most_add, at_most_cancel, at_most_more, near_sym, near_pos}
use Rattle.basics.proofs.MildLaws.{within_2}
use Rattle.markov.specs.Chain.{Rates}
use Rattle.markov.proofs.Positive.{pos_left, pos_right}
use Rattle.markov.proofs.Step.{pivot, reduced}
use Rattle.range.proofs.Walks.{Onward, Backward}

-- a move of positive rate between two of n states, at the cost of 1
pub record Positive (n : ℕ) (g : Rates) (i j c : ℕ) : Type 0 where
  pub i_below : i < n
  pub j_below : j < n
  pub apart : i ≢ j
  pub pos : zero < g i j
  pub cost : c ≡ 1

-- a move of a rate that is at least 1 / B ^ (c - 1)
pub record AtLeast (one B n : ℕ) (g : Rates) (i j c : ℕ) : Type 0 where
  pub i_below : i < n
  pub j_below : j < n
  pub apart : i ≢ j
  pub least : one * B ≤ g i j * B ^ c

pub either_pos : (a b : ℕ) → zero < a + b → (zero < a) ⊎ (zero < b)
either_pos zero b h = inr (omega arith)
either_pos (suc a) b h = inl (omega arith)

-- h is the reduced chain of g, divided by the pivot, with entries within d factors
module _ {F : Factor} {K : ℕ} (M : Mild F K) (r d : ℕ) (g h : Rates) (small : d ≤ K) (s : zero < pivot r g)
    (e : (i j : ℕ) → i < r → j < r → i ≢ j → Near F d (pivot r g * h i j) (reduced r g i j)) where
  -- an entry is at most doubled: the way through state 0 is at most the rate to state 0
  pub doubled : {t u : ℕ} → ((i j : ℕ) → i < suc r → j < suc r → i ≢ j → AtMost F t (g i j) u)
      → (i j : ℕ) → i < r → j < r → i ≢ j → AtMost F (d + t) (h i j) (2 * u)
  unfolding pivot reduced
  doubled {t} {u} top i j li lj ne =
      let p = pivot r g in
      let x = g (suc i) zero in
      let y = g (suc i) (suc j) in
      let through : p * y + x * g zero (suc j) ≤ p * (y + x) = omega (arith, mul-le-mul_left x (term_le_sum r (λ j. g zero (suc j)) j lj)) in
      let both : AtMost F t (y + x) (u + u) =
      at_most_add (top (suc i) (suc j) (suc-le-suc li) (suc-le-suc lj) (λ q. ne (omega arith))) (top (suc i) zero (suc-le-suc li) (omega arith) (λ q. omega arith)) in
      let twice : u + u ≡ 2 * u = omega arith in
      at_most_trans (at_most_cancel s (at_most_more {c = d + zero} (omega arith) (at_most_trans (e i j li lj ne).under (at_most_of_le zero through)))) (rw twice at both)

  -- moves that are not too small stay so, at the sum of their costs
  pub least_on : {one B : ℕ} → zero < one * B → 2 * pivot r g ≤ one * B → ((i j : ℕ) → i < r → j < r → i ≢ j → g (suc i) (suc j) ≤ h i j)
      → Onward (AtLeast one B (suc r) g) (AtLeast one B r h)
  unfolding reduced
  least_on {one} {B} pos top grows = record {
    apart = λ m. m.apart;
    keep = λ {i} {k} {c} m. record {
      i_below = omega arith;
      j_below = omega arith;
      apart = omega arith;
      least = le_trans m.least (mul-le-mul_right (B ^ c) (grows i k (omega arith) (omega arith) (omega arith)));
    };
    merge = λ {i} {k} {c} {d = c'} ne m m'.
        let x = g (suc i) zero in
        let y = g zero (suc k) in
        let li : i < r = omega arith in
        let lk : k < r = omega arith in
        let z = h i k in
        let near : reduced r g i k ≤ 2 * (pivot r g * z) = within_2 M small (e i k li lk ne).over in
        let far : x * y ≤ one * B * z = omega (arith, mul-le-mul_right z top) in
        let both : one * B * (one * B) ≤ x * B ^ c * (y * B ^ c') = mul-le-mul m.least m'.least in
        record {
          i_below = li;
          j_below = lk;
          apart = ne;
          least = le_of_mul-le-mul_left {k = one * B} (rw (pow-add B c c') (omega (arith, mul-le-mul_right (B ^ c * B ^ c') far))) pos;
        };
  }

  -- a positive rate of h is one of g, or two by way of state 0
  pub positive_back : Backward (Positive (suc r) g) (Positive r h)
  unfolding reduced
  positive_back = record {
    split = λ {i} {k} {c} m. go i k c m (either_pos _ _ (near_pos (near_sym (e i k m.i_below m.j_below m.apart)) (mul-pos s m.pos)));
    costs = λ m. omega arith;
  }
    where
      go : (i k c : ℕ) → Positive r h i k c → (zero < pivot r g * g (suc i) (suc k)) ⊎ (zero < g (suc i) zero * g zero (suc k))
          → Positive (suc r) g (suc i) (suc k) c ⊎ (Positive (suc r) g (suc i) zero 1 × Positive (suc r) g zero (suc k) 1)
      go i k c m (inl q) = inl (record { i_below = omega arith; j_below = omega arith; apart = omega arith; pos = pos_right (pivot r g) _ q; cost = m.cost })
      go i k c m (inr q) = inr (
        record { i_below = omega arith; j_below = omega arith; apart = omega arith; pos = pos_left (g (suc i) zero) _ q; cost = refl },
        record { i_below = omega arith; j_below = omega arith; apart = omega arith; pos = pos_right (g (suc i) zero) _ q; cost = refl },
      )
