-- What the contract of `solve` says of case 2, in which each state reaches the other: that R-3 changes nothing, field by field. Assumes nothing.
use Rattle.std.specs.Prelude.{Result}
use mathlib.Core.Bool.{true}
use mathlib.Core.Path.{◌≡◌}
use Prim.Native.Nat.{ℕ, zero, suc, ◌<◌}
use native.Mathlib.Omega.{arith}
use lib.Dec.{lit<}
use Rattle.basics.specs.Sum.{sum}
use Rattle.refusal.specs.declared.Refusal.{Refusal}
use Rattle.markov.specs.Chain.{Reaches, here, move, Irreducible}
use Rattle.markov.specs.Closed.{HasAnswer, set_weight}
use Rattle.markov.specs.Weight.{weight}
use Rattle.markov.specs.Elimination as elimination
use Rattle.markov.specs.Count.{bound_count}
use Rattle.chain.specs.Meaning.{rate_in}
use Rattle.reach.specs.Answer.{set_of}
use Rattle.kernel.specs.Numbers.{ops}
use Rattle.solver.specs.Lent.{Lent}
use Rattle.solver.specs.Solve.{entries, weights_of, shares_of, count_of, WholeChain, Solved}
use Rattle.worked.specs.Table.{chain2}
use Rattle.worked.proofs.CasesDemands.{has_answer_2}

irreducible_2 : Irreducible 2 (rate_in chain2)
unfolding rate_in sum
irreducible_2 = record { path = path }
  where
    path : (i j : ℕ) → i < 2 → j < 2 → Reaches 2 (rate_in chain2) i j
    path zero zero hi hj = here
    path zero (suc zero) hi hj = move {i = 0} {k = 1} (lit< tt) (lit< tt) here
    path zero (suc (suc j)) hi hj = absurd (omega arith)
    path (suc zero) zero hi hj = move {i = 1} {k = 0} (lit< tt) (lit< tt) here
    path (suc zero) (suc zero) hi hj = here
    path (suc zero) (suc (suc j)) hi hj = absurd (omega arith)
    path (suc (suc i)) j hi hj = absurd (omega arith)

module _ {old new : Lent} {r : Result ℕ Refusal} (s : Solved chain2 old r new) where
  pub answer_2 : HasAnswer 2 (rate_in chain2)
  answer_2 = (s.irreducible has_answer_2.0 irreducible_2).0

  whole_2 : WholeChain chain2
  whole_2 = (s.irreducible has_answer_2.0 irreducible_2).1

  pub set_2 : (set_of chain2 0 ≡ true) × (set_of chain2 1 ≡ true)
  set_2 = (whole_2.set 0 (lit< tt), whole_2.set 1 (lit< tt))

  pub count_2 : count_of chain2 ≡ 8
  unfolding bound_count
  count_2 = whole_2.count

  pub exact_2 : set_weight 2 (rate_in chain2) (set_of chain2) 1 ≡ weight 2 (rate_in chain2) 1
  exact_2 = whole_2.exact 1 (lit< tt)

  pub weight_2 : weights_of chain2 0 ≡ elimination.weights ops 1 (entries chain2) 0
  weight_2 = whole_2.weights 0 (lit< tt)

  pub share_2 : shares_of chain2 0 ≡ elimination.shares ops 1 (entries chain2) 0
  share_2 = whole_2.shares 0 (lit< tt)
