-- The rate between two joint states, by which part moves. Assumes nothing.
use mathlib.Core.Bool.{Bool}
use mathlib.Core.Logic.{◌≢◌}
use mathlib.Core.Path.{◌≡◌, refl, sym, ◌∙◌}
use Prim.Native.Nat.{ℕ, ◌+◌, ◌*◌, ◌/◌, ◌%◌, ◌<◌}
use native.Mathlib.Nat.{mod-lt}
use native.Mathlib.Omega.{arith}
use lib.Dec.{eqb}
use borrow.Author.Tests.{eq-eqb, ne_eqb}
use Rattle.basics.specs.Below.{count}
use Rattle.markov.specs.Product.{joint_rate}
use Rattle.markov.proofs.Product.{first_below}
use Rattle.chain.specs.Rows.{Rows}
use Rattle.chain.specs.Meaning.{rate_in}
use Rattle.chain.proofs.RateLaws.{rate_own}
use Rattle.joined.specs.Joined.{joint_rates}
use Rattle.joined.specs.Verdict.{Joinable}

module _ {first second : Rows} (p : Joinable first second) (x y : ℕ) where
  pub second_state : x % second.order < second.order
  second_state = mod-lt x p.second_accepted.sound.order.low

  -- where the second part stands still the first moves, where the first does the second, and otherwise there is no move
  pub first_rate : x % second.order ≡ y % second.order → rate_in first (x / second.order) (y / second.order) ≡ joint_rates first second x y
  unfolding joint_rate count
  first_rate e = rw (eq-eqb _ _ e) (go (eqb (x / second.order) (y / second.order)))
    where
      still : rate_in second (x % second.order) (y % second.order) ≡ 0
      still = rw (← e) (rate_own p.second_accepted.sound (x % second.order) second_state)

      go : (t : Bool) → rate_in first (x / second.order) (y / second.order)
          ≡ 1 * rate_in first (x / second.order) (y / second.order) + count t * rate_in second (x % second.order) (y % second.order)
      go t = rw still (omega arith)

  pub second_rate : x % second.order ≢ y % second.order → x / second.order ≡ y / second.order
      → rate_in second (x % second.order) (y % second.order) ≡ joint_rates first second x y
  unfolding joint_rate count
  second_rate d e = rw (ne_eqb _ _ d, eq-eqb _ _ e) (omega arith)

  pub no_rate : x % second.order ≢ y % second.order → x / second.order ≢ y / second.order → 0 ≡ joint_rates first second x y
  unfolding joint_rate count
  no_rate d e = rw (ne_eqb _ _ d, ne_eqb _ _ e) (omega arith)

-- no joint state moves to itself
pub joint_own : {first second : Rows} → Joinable first second → (x : ℕ) → x < first.order * second.order → joint_rates first second x x ≡ 0
joint_own {first} {second} p x l = sym (first_rate p x x refl) ∙ rate_own p.first_accepted.sound _ (first_below first.order second.order x l)
