-- The error of a sum of those numbers that a test picks: one factor for each number added, beside the errors of the numbers; and so the
-- bound on the groups' shares. Assumes nothing.
use mathlib.Core.Bool.{Bool, true, false, cond}
use mathlib.Core.List.{List}
use mathlib.Core.Logic.{⊎_elim}
use mathlib.Core.Path.{◌≡◌, refl, sym, ap, ◌∙◌}
use Prim.Native.Nat.{ℕ, zero, suc, ◌+◌, ◌*◌, ◌≤◌, ◌<◌}
use native.Mathlib.Nat.{mul-pos, mul-zero, eq-zero-or-pos}
use native.Mathlib.Omega.{arith}
use Rattle.basics.specs.Sum.{sum}
use Rattle.basics.specs.Near.{Factor, Near}
use Rattle.basics.proofs.SumLaws.{sum_zero, sum_last, sum_pos, mul_sum}
use Rattle.basics.proofs.TermLaws.{sum_mul, sum_none}
use Rattle.basics.proofs.NearLaws.{near_same, near_trans, near_more, near_add, near_sum, near_scale, near_zero, near_eq}
use Rattle.markov.specs.Elimination.{Ops}
use Rattle.markov.specs.Promises.{Promises}
use Rattle.markov.specs.Closed.{Closed, size, set_weight}
use Rattle.markov.proofs.Members.{size_le}
use Rattle.markov.proofs.SetBalance.{spread_out, set_weight_pos}
use Rattle.range.specs.Range.{picked}
use Rattle.scaled.specs.declared.Scaled.{Scaled}
use Rattle.scaled.specs.Scaled.{zero_number}
use Rattle.scaled.specs.Units.{val, one, factor}
use Rattle.scaled.proofs.Laws.{zero_of_value}
use Rattle.chain.specs.Rows.{Rows}
use Rattle.chain.specs.Meaning.{rate_in}
use Rattle.reach.specs.Answer.{set_of}
use Rattle.kernel.specs.Numbers.{Fit}
use Rattle.solver.specs.Solve.{shares_of, AllInside}
use Rattle.solver.proofs.Operations.{promises}
use Rattle.group_table.specs.Sums.{in_group, group_share}
use Rattle.group_shares.specs.GroupShares.{group_shares_of, group_weight, GroupsAccurate}

-- equal numbers have equal sums
pub picked_cong : {X : Type 0} (O : Ops X) (test : ℕ → Bool) (n : ℕ) {f h : ℕ → X} → ((i : ℕ) → i < n → f i ≡ h i)
    → picked O test f n ≡ picked O test h n
unfolding picked
picked_cong O test zero e = refl
picked_cong O test (suc n) e = rw (e n (omega arith), picked_cong O test n (λ i l. e i (omega arith)))

-- those of w 0 .. w (n - 1) that the test picks, summed exactly
abbrev pub exact : (ℕ → Bool) → (ℕ → ℕ) → ℕ → ℕ
exact test w n = sum n (λ i. cond (test i) (w i) 0)

module _ {F : Factor} {X : Type 0} {O : Ops X} {one : ℕ} {val : X → ℕ} {Fit : X → Type 0} (P : Promises F O one val Fit) (test : ℕ → Bool) (f : ℕ → X) where
  -- each sum rounds at most once
  picked_near : (n : ℕ) → ((i : ℕ) → i < n → Fit (f i)) → ((k : ℕ) → k ≤ n → Fit (picked O test f k))
      → Near F n (val (picked O test f n)) (exact test (λ i. val (f i)) n)
  unfolding picked
  picked_near zero hf hp = near_eq (near_same zero) P.nought_is (sum_zero _)
  picked_near (suc n) hf hp =
      go (test n) refl (picked_near n (λ i l. hf i (omega arith)) (λ k l. hp k (omega arith))) (hp (suc n) (omega arith))
    where
      last : (b : Bool) → test n ≡ b → exact test (λ i. val (f i)) (suc n) ≡ exact test (λ i. val (f i)) n + cond b (val (f n)) 0
      last b e = sum_last n (λ i. cond (test i) (val (f i)) 0) ∙ rw e

      go : (b : Bool) → test n ≡ b → Near F n (val (picked O test f n)) (exact test (λ i. val (f i)) n)
          → Fit (cond b (O.add (picked O test f n) (f n)) (picked O test f n))
          → Near F (suc n) (val (cond b (O.add (picked O test f n) (f n)) (picked O test f n))) (exact test (λ i. val (f i)) (suc n))
      go true e h fits =
          let a = P.added (picked O test f n) (f n) (hp n (omega arith)) (hf n (omega arith)) fits in
          near_more (omega arith) (near_eq (near_trans a.near (near_add h (near_same n))) refl (last true e))
      go false e h fits = near_more (omega arith) (near_eq h refl (last false e ∙ omega arith))

  -- where each number times t is near one times its exact weight, so is the sum, with n factors more
  pub group_near : (n c t : ℕ) (w : ℕ → ℕ) → ((i : ℕ) → i < n → Fit (f i)) → ((k : ℕ) → k ≤ n → Fit (picked O test f k))
      → ((i : ℕ) → i < n → Near F c (val (f i) * t) (one * w i)) → Near F (n + c) (val (picked O test f n) * t) (one * exact test w n)
  group_near n c t w hf hp h =
      near_trans (near_eq (near_scale t (picked_near n hf hp)) (omega arith) refl)
      (near_eq (near_sum n {g = λ i. one * cond (test i) (w i) 0} (λ i l. each (val (f i)) (w i) (test i) (h i l))) left right)
    where
      each : (x y : ℕ) (b : Bool) → Near F c (x * t) (one * y) → Near F c (cond b x 0 * t) (one * cond b y 0)
      each x y true k = k
      each x y false k = near_eq (near_same c) refl (omega arith)

      left : t * exact test (λ i. val (f i)) n ≡ sum n (λ i. cond (test i) (val (f i)) 0 * t)
      left = omega (arith, sum_mul n t (λ i. cond (test i) (val (f i)) 0))

      right : one * exact test w n ≡ sum n (λ i. one * cond (test i) (w i) 0)
      right = omega (arith, mul_sum n one (λ i. cond (test i) (w i) 0))

-- ---- the groups' shares of a chain whose shares are within their bounds, and whose numbers are all in range

module _ (c : Rows) (table : List ℕ) (k : ℕ) (o : Closed c.order (rate_in c) (set_of c)) (inside : AllInside c) (scaled : (i : ℕ) → i < c.order → Fit (shares_of c i))
    (near : (i : ℕ) → i < c.order → Near factor (2 * k + size c.order (set_of c)) (val (shares_of c i) * sum c.order (set_weight c.order (rate_in c) (set_of c)))
    (one * set_weight c.order (rate_in c) (set_of c) i)) where
  -- every partial sum is a scaled number
  part_fits : (g j : ℕ) → j ≤ c.order → Fit (group_share table j (shares_of c) g)
  part_fits g j l = (inside.groups (in_group table g) j l).scaled

  -- the exact weight of a group without states in the set
  weight_outside : (g : ℕ) → ((i : ℕ) → i < c.order → in_group table g i ≡ true → set_of c i ≡ false) → group_weight c.order (rate_in c) (set_of c) table g ≡ 0
  unfolding group_weight set_weight
  weight_outside g h = sum_none c.order (λ i l. go i l (in_group table g i) refl)
    where
      go : (i : ℕ) → i < c.order → (b : Bool) → in_group table g i ≡ b → cond b (set_weight c.order (rate_in c) (set_of c) i) 0 ≡ 0
      go i l true e = spread_out (set_of c) 0 _ i (h i l e)
      go i l false e = refl

  -- a share near 0 of a positive sum is Zero
  zero_of_near : {d : ℕ} (t : ℕ) (x : Scaled) → Fit x → 0 < t → Near factor d (val x * t) 0 → x ≡ zero_number
  zero_of_near t x fits p h =
      let z : val x * t ≡ 0 = near_zero h in
      zero_of_value x fits (⊎_elim (λ e. e) (λ q. absurd (omega (arith, z, mul-pos q p))) (eq-zero-or-pos (val x)))

  pub groups_accurate : GroupsAccurate c.order (rate_in c) (set_of c) table k (group_shares_of c table)
  unfolding group_shares_of group_weight
  groups_accurate = record {
    scaled = λ g l. part_fits g c.order (omega arith);
    outside = λ g l h. zero_of_near _ _ (part_fits g c.order (omega arith)) sum_some
        (near_eq (group g) refl (sym (ap (λ (w : ℕ). one * w) (weight_outside g h) ∙ mul-zero one)));
    near = λ g l. group g;
  }
    where
      sum_some : 0 < sum c.order (set_weight c.order (rate_in c) (set_of c))
      sum_some = sum_pos c.order _ o.state o.below (set_weight_pos o o.state o.below o.inside)

      group : (g : ℕ) → Near factor (2 * k + 2 * c.order) (val (group_share table c.order (shares_of c) g) * sum c.order (set_weight c.order (rate_in c) (set_of c)))
          (one * group_weight c.order (rate_in c) (set_of c) table g)
      group g = near_more (omega (arith, size_le c.order (set_of c)))
          (group_near promises (in_group table g) (shares_of c) c.order (2 * k + size c.order (set_of c)) (sum c.order (set_weight c.order (rate_in c) (set_of c)))
          (set_weight c.order (rate_in c) (set_of c)) scaled (λ j b. part_fits g j b) near)
