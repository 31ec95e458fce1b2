-- A sum over the states of the chain of what is Zero outside a set is the sum over the set's places: adding Zero changes nothing. Assumes nothing.
use mathlib.Core.Bool.{Bool, true, false, cond}
use mathlib.Core.Path.{◌≡◌, refl, ap}
use Prim.Native.Nat.{ℕ, zero, suc, ◌≤◌}
use native.Mathlib.Numerals.{add-one}
use native.Mathlib.Omega.{arith}
use Rattle.range.specs.Range.{picked}
use Rattle.markov.specs.Closed.{size, member, spread}
use Rattle.markov.proofs.Members.{member_place, size_mono}
use Rattle.markov.proofs.SetBalance.{spread_in, spread_out}
use Rattle.members.proofs.Sizes.{size_none, size_next_in, size_next_out}
use Rattle.scaled.specs.declared.Scaled.{Scaled}
use Rattle.scaled.specs.Scaled.{zero_number}
use Rattle.kernel.specs.Numbers.{Fit, plus, ops}
use Rattle.solver.proofs.Operations.{plus_zero}

module _ (n : ℕ) (set test : ℕ → Bool) (f : ℕ → Scaled) where
  -- the sum of those of the first p places of the set whose states the test picks
  abbrev places : ℕ → Scaled
  places = picked ops (λ p. test (member n set p)) f

  pub picked_spread : ((p : ℕ) → p ≤ size n set → Fit (places p)) → (k : ℕ) → k ≤ n
      → picked ops test (spread set zero_number f) k ≡ places (size k set)
  unfolding picked
  picked_spread fits zero l = rw (size_none set)
  picked_spread fits (suc k) l = go (set k) refl (picked_spread fits k (omega arith))
    where
      go : (b : Bool) → set k ≡ b → picked ops test (spread set zero_number f) k ≡ places (size k set)
          → cond (test k) (plus (picked ops test (spread set zero_number f) k) (spread set zero_number f k)) (picked ops test (spread set zero_number f) k)
          ≡ places (size (suc k) set)
      go true b h =
          let next : size (suc k) set ≡ suc (size k set) = omega (arith, ap (λ (x : ℕ). size x set) (add-one k), size_next_in set k b) in
          rw (next, h, spread_in set zero_number f k b, member_place n set k (omega arith) b)
      go false b h =
          let next : size (suc k) set ≡ size k set = omega (arith, ap (λ (x : ℕ). size x set) (add-one k), size_next_out set k b) in
          let none = plus_zero (places (size k set)) (fits (size k set) (size_mono k n set (omega arith))) in
          rw (next, h, spread_out set zero_number f k b, none) (same (test k))
        where
          same : (t : Bool) → cond t (places (size k set)) (places (size k set)) ≡ places (size k set)
          same true = refl
          same false = refl
