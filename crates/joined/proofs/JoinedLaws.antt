-- The joint chain: the check takes it, it has the joint rates, and so all that is proved of two parts side by side. Assumes nothing.
use mathlib.Core.Bool.{Bool, true, false}
use mathlib.Core.Path.{◌≡◌, refl, sym, ap, ap₂, ◌∙◌}
use Prim.Native.Nat.{ℕ, ◌+◌, ◌*◌}
use native.Mathlib.Nat.{mul-pos}
use native.Mathlib.Omega.{arith}
use lib.Dec.{ltb}
use lib.ListN.{length}
use borrow.Author.Tests.{eq-eqb, ne_eqb}
use Rattle.basics.specs.Sum.{sum}
use Rattle.basics.specs.Below.{count}
use Rattle.refusal.specs.Table.{accepts}
use Rattle.markov.proofs.Product.{IsJoint, rate_is, joint_moves}
use Rattle.markov.proofs.ProductSets.{joint_reaches}
use Rattle.reach.proofs.SideBySide.{both_only, both_shares}
use Rattle.chain.specs.Rows.{Rows}
use Rattle.chain.specs.Sound.{SoundOrder, Accepted}
use Rattle.chain.specs.Meaning.{rate_in}
use Rattle.chain.proofs.RateLaws.{rate_own}
use Rattle.chain.proofs.Reading.{sound_accepted}
use Rattle.from_rates.proofs.FromLaws.{from_count, from_accepted, from_rate}
use Rattle.from_rates.proofs.SameChain.{from_same}
use Rattle.joined.specs.Joined.{joint_rates, joined, entries_of, SideBySide, JointChain}
use Rattle.joined.specs.Verdict.{Joinable}
use Rattle.joined.proofs.RateLaws.{joint_own}
use Rattle.joined.proofs.OneState.{first_alone, second_alone}

-- one of two terms, or none
first_term : {s t : Bool} (u v : ℕ) → s ≡ true → t ≡ false → count s * u + count t * v ≡ u
unfolding count
first_term u v p q = rw (p, q) (omega arith)

second_term : {s t : Bool} (u v : ℕ) → s ≡ false → t ≡ true → count s * u + count t * v ≡ v
unfolding count
second_term u v p q = rw (p, q) (omega arith)

no_term : {s t : Bool} (u v : ℕ) → s ≡ false → t ≡ false → count s * u + count t * v ≡ 0
unfolding count
no_term u v p q = rw (p, q) (omega arith)

-- an accepted chain has as many entries as positive rates
entries_moves : {c : Rows} → Accepted c → length c.columns ≡ sum c.order (λ i. sum c.order (λ k. count (ltb 0 (rate_in c i k))))
entries_moves {c} h = ap (λ (d : Rows). length d.columns) (sym (from_same h)) ∙ from_count c.order (rate_in c)

-- b × (entries of the first) + a × (entries of the second)
pub joined_count : {first second : Rows} → Accepted first → Accepted second → length (joined first second).columns ≡ entries_of first second
unfolding joined
joined_count {first} {second} p q =
    from_count (first.order * second.order) (joint_rates first second)
    ∙ joint_moves first.order second.order (rate_in first) (rate_in second) (rate_own p.sound) (rate_own q.sound)
    ∙ ap₂ (λ (j k : ℕ). second.order * j + first.order * k) (sym (entries_moves p)) (sym (entries_moves q))

module _ {first second : Rows} (p : Joinable first second) where
  joint_order : SoundOrder (first.order * second.order)
  joint_order = record { low = mul-pos p.first_accepted.sound.order.low p.second_accepted.sound.order.low; high = p.order }

  pub joined_accepted : Accepted (joined first second)
  unfolding joined
  joined_accepted = from_accepted (first.order * second.order) (joint_rates first second) joint_order (joint_own p)

  is_joint : IsJoint first.order second.order (rate_in first) (rate_in second) (rate_in (joined first second))
  unfolding joined
  is_joint = record { at = from_rate (first.order * second.order) (joint_rates first second) joint_order (joint_own p) }

  side_by_side : SideBySide first.order second.order (rate_in first) (rate_in second) (rate_in (joined first second))
  side_by_side = record {
    rates = is_joint.at;
    first_moves = λ i i' j hi hi' hj d. rate_is is_joint i j i' j hi hj hi' hj ∙ first_term (rate_in first i i') (rate_in second j j) (eq-eqb j j refl) (ne_eqb i i' d);
    second_moves = λ i j j' hi hj hj' d. rate_is is_joint i j i j' hi hj hi hj' ∙ second_term (rate_in first i i) (rate_in second j j') (ne_eqb j j' d) (eq-eqb i i refl);
    never_both = λ i j i' j' hi hj hi' hj' d e. rate_is is_joint i j i' j' hi hj hi' hj' ∙ no_term (rate_in first i i') (rate_in second j j') (ne_eqb j j' e) (ne_eqb i i' d);
    reaching = joint_reaches is_joint;
    answer = λ S T s t. both_only is_joint s t;
    shares = λ S T s t. both_shares is_joint s t;
  }

  pub joint_chain : JointChain first second (joined first second)
  joint_chain = record {
    chain_is = refl;
    passes = sound_accepted (joined first second) joined_accepted ∙ ap accepts (joined_count p.first_accepted p.second_accepted);
    side_by_side = side_by_side;
    first_alone = first_alone p;
    second_alone = second_alone p;
  }
