-- The matrix of the set's states, its elimination and back substitution. Assumes nothing.
use mathlib.Core.Bool.{Bool}
use mathlib.Core.List.{List}
use mathlib.Core.Path.{◌≡◌, subst}
use Prim.Native.Nat.{ℕ}
use native.Mathlib.Omega.{arith}
use Rattle.std.specs.Prelude.{Option}
use Rattle.kernel.proofs.Lent.{stored_so}
use Rattle.members.specs.Members.{Listed}
use Rattle.elimination.proofs.Weighing.{loaded_fits, weights_hold}
use Rattle.elimination.proofs.weigh.Goals as goal

-- as many states were listed as the set has
counted : {n r k : ℕ} {set : ℕ → Bool} {list : List ℕ} {places : List (Option ℕ)} → Listed n set r list places → r ≡ k → Listed n set k list places
counted {n} {r} {k} {set} {list} {places} l e = subst (λ (x : ℕ). Listed n set x list places) e l

pub weigh-requires-clause-all_fit : goal.weigh-requires-clause-all_fit
weigh-requires-clause-all_fit c =
    let p = c.requires.weighable in
    let s = c.states_of-states.ensures in
    let l = c.load.ensures in
    rw l.same_order (loaded_fits p.some (counted s (omega (arith, s.count, p.size_is))) l.holds p.fits.elimination)

pub returns : goal.returns
returns c =
    let p = c.requires.weighable in
    let s = c.states_of-states.ensures in
    let l = c.load.ensures in
    let w = c.weigh.ensures.holds in
    let weights = w.holds.weights_are in
    stored_so w (weights_hold p.some (counted s (omega (arith, s.count, p.size_is))) l.holds (rw l.same_order at weights))
