-- A part of one state gives back the other part, slice for slice. Assumes nothing.
use mathlib.Core.Path.{◌≡◌, sym, ap, ◌∙◌}
use Prim.Native.Nat.{ℕ, ◌+◌, ◌*◌, ◌/◌, ◌%◌, ◌<◌}
use native.Mathlib.Decide.{ℕ_discrete}
use native.Mathlib.Omega.{arith}
use lib.Arith.{digits_div, digits_mod}
use Rattle.chain.specs.Rows.{Rows}
use Rattle.chain.specs.Meaning.{rate_in}
use Rattle.chain.proofs.RateLaws.{rate_own}
use Rattle.from_rates.specs.FromRates.{from_rates}
use Rattle.from_rates.proofs.SameChain.{from_cong, from_same}
use Rattle.joined.specs.Joined.{joint_rates, joined}
use Rattle.joined.specs.Verdict.{Joinable}
use Rattle.joined.proofs.RateLaws.{first_rate, second_rate, joint_own}

module _ {first second : Rows} (p : Joinable first second) where
  -- the second part has one state
  pub first_alone : second.order ≡ 1 → joined first second ≡ first
  unfolding joined
  first_alone e =
      let n : first.order * second.order ≡ first.order = rw e (omega arith) in
      ap (λ (k : ℕ). from_rates k (joint_rates first second)) n
      ∙ from_cong first.order (joint_rates first second) (rate_in first) same
      ∙ from_same p.first_accepted
    where
      whole : (x : ℕ) → x / second.order ≡ x
      whole x = rw e (omega arith)

      same : (x y : ℕ) → x < first.order → y < first.order → joint_rates first second x y ≡ rate_in first x y
      same x y l m =
          let z : x % second.order ≡ y % second.order = rw e (omega arith) in
          rw (whole x, whole y) at (sym (first_rate p x y z))

  -- the first part has one state
  pub second_alone : first.order ≡ 1 → joined first second ≡ second
  unfolding joined
  second_alone e =
      ap (λ (k : ℕ). from_rates k (joint_rates first second)) n
      ∙ from_cong second.order (joint_rates first second) (rate_in second) same
      ∙ from_same p.second_accepted
    where
      n : first.order * second.order ≡ second.order
      n = rw e (omega arith)

      none : (x : ℕ) → x < second.order → x / second.order ≡ 0
      none x l = let z : 0 * second.order + x ≡ x = omega arith in rw z at (digits_div 0 l)

      rest : (x : ℕ) → x < second.order → x % second.order ≡ x
      rest x l = let z : 0 * second.order + x ≡ x = omega arith in rw z at (digits_mod 0 l)

      same : (x y : ℕ) → x < second.order → y < second.order → joint_rates first second x y ≡ rate_in second x y
      same x y l m =
          elim (ℕ_discrete x y) [
            | yes z ↦ rw (← z) (joint_own p x (rw n l) ∙ sym (rate_own p.second_accepted.sound x l))
            | no d ↦ (
                let q : x % second.order ≡ y % second.order → ⊥ = λ z. d (sym (rest x l) ∙ z ∙ rest y m) in
                rw (rest x l, rest y m) at (sym (second_rate p x y q (none x l ∙ sym (none y m))))
                )
          ]
