-- A joint chain is solved: its shares lie near the products of the parts' exact shares. Assumes nothing.
use mathlib.Core.Bool.{Bool}
use mathlib.Core.Path.{◌≡◌, ap}
use Prim.Native.Nat.{ℕ, ◌+◌, ◌*◌, ◌<◌}
use native.Mathlib.Omega.{arith}
use lib.Arith.{digits_lt}
use Rattle.basics.specs.Sum.{sum}
use Rattle.basics.specs.Near.{Near}
use Rattle.basics.proofs.SumLaws.{sum_cong, sum_pos}
use Rattle.basics.proofs.NearLaws.{near_scale, near_cancel, near_eq}
use Rattle.refusal.specs.Table.{accepts, verdict}
use Rattle.markov.specs.Chain.{Rates}
use Rattle.markov.specs.Closed.{OnlyClosed, size, set_weight}
use Rattle.markov.specs.Product.{joint_set}
use Rattle.markov.proofs.SetBalance.{set_weight_pos}
use Rattle.markov.proofs.SameSet.{Same, size_cong, set_weight_cong}
use Rattle.scaled.specs.declared.Scaled.{Scaled}
use Rattle.scaled.specs.Units.{val, one, factor}
use Rattle.chain.proofs.Reading.{accepted_whole}
use Rattle.layout.specs.Buffers.{chain_in}
use Rattle.solver.specs.Solve.{count_of, Accurate}
use Rattle.joined.specs.Joined.{SideBySide}
use Rattle.worked.specs.SideBySide.{ProductShares, JoinThenSolve}

-- factors in another order
commute : (y w P : ℕ) → y * (w * P) ≡ P * (w * y)
commute y w P = omega arith

commute' : (y P z p : ℕ) → z * P ≡ p * y → y * (one * p) ≡ P * (one * z)
commute' y P z p e = omega (arith, ap (λ (m : ℕ). one * m) e)

-- the shares of a chain whose rates are the joint ones, and whose computed set is its only closed one
module _ {a b : ℕ} {f g h : Rates} (J : SideBySide a b f g h) {S T U : ℕ → Bool} (s : OnlyClosed a f S) (t : OnlyClosed b g T) (u : OnlyClosed (a * b) h U) where
  same : Same (a * b) U (joint_set b S T)
  same = (J.answer S T s t).only U u.closed

  pub near_products : {count : ℕ} {weight' share' : ℕ → Scaled} → Accurate (a * b) h U count weight' share' → ProductShares a b f g S T count share'
  near_products {count} {weight'} {share'} k = record { near = near }
    where
      W : ℕ → ℕ
      W = set_weight (a * b) h (joint_set b S T)

      near : (i j : ℕ) → i < a → j < b
          → Near factor (2 * count + size (a * b) (joint_set b S T))
          (val (share' (i * b + j)) * (sum a (set_weight a f S) * sum b (set_weight b g T)))
          (one * (set_weight a f S i * set_weight b g T j))
      near i j hi hj =
          let x = i * b + j in
          let P = sum a (set_weight a f S) * sum b (set_weight b g T) in
          let p = set_weight a f S i * set_weight b g T j in
          let w = val (share' x) in
          let total : sum (a * b) (set_weight (a * b) h U) ≡ sum (a * b) W = sum_cong (a * b) (set_weight_cong (a * b) same h) in
          let known : Near factor (2 * count + size (a * b) (joint_set b S T)) (w * sum (a * b) W) (one * W x) =
          rw (size_cong (a * b) same, total, set_weight_cong (a * b) same h x (digits_lt hi hj)) at (k.shares x (digits_lt hi hj)) in
          let product : W x * P ≡ p * sum (a * b) W = J.shares S T s t i j hi hj in
          let c = (J.answer S T s t).closed in
          let pos : 0 < sum (a * b) W = sum_pos (a * b) W c.state c.below (set_weight_pos c c.state c.below c.inside) in
          near_cancel pos (near_eq (near_scale P known) (commute (sum (a * b) W) w P) (commute' (sum (a * b) W) P (W x) p product))

pub join_then_solve : JoinThenSolve
join_then_solve first second old r new d e q S T s t lent o lent' v room =
    let j = d.joint e q in
    let J = j.side_by_side in
    let c = chain_in new (first.order * second.order) e in
    let accepted : verdict o ≡ accepts (count_of c) =
    v.acceptance.0 (record { accepted = accepted_whole c j.passes; room = room; answer = record { set = joint_set second.order S T; one = J.answer S T s t } }) in
    (accepted, near_products J s t (v.the_set (count_of c) accepted) (v.accurate (count_of c) accepted))
