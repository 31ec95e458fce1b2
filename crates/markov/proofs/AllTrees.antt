-- Exact weights of small chains, with all their trees, by evaluation of the definition. Assumes nothing.
use mathlib.Core.List.{[], ◌∷◌}
use mathlib.Core.Path.{◌≡◌, refl}
use Prim.Native.Nat.{zero, suc, ◌+◌, ◌*◌}
use native.Mathlib.Omega.{arith}
use lib.ListN.{get_or}
use Rattle.basics.specs.Sum.{sum, prod}
use Rattle.basics.specs.Below.{count, all, put}
use Rattle.markov.specs.Chain.{Rates, Balanced}
use Rattle.markov.specs.Weight.{over, led, leads, moves, weight}

-- six different rates: 2 and 3 from state 0, 5 and 7 from state 1, 11 and 13 from state 2
unfoldable pub six : Rates
six i j = get_or (0 ∷ 2 ∷ 3 ∷ 5 ∷ 0 ∷ 7 ∷ 11 ∷ 13 ∷ 0 ∷ []) (3 * i + j) 0

-- 5 × 11 + 5 × 13 + 7 × 11, 2 × 11 + 2 × 13 + 3 × 13 and 2 × 7 + 3 × 5 + 3 × 7: three trees to each state
pub weights_six : (weight 3 six 0 ≡ 197) × (weight 3 six 1 ≡ 87) × (weight 3 six 2 ≡ 50)
unfolding weight over sum prod count put leads led all moves six
weights_six = (refl, refl, refl)

-- Cayley: 16 trees on 4 states
pub weights_complete : (weight 4 (λ i j. 1) 0 ≡ 16) × (weight 4 (λ i j. 1) 1 ≡ 16) × (weight 4 (λ i j. 1) 2 ≡ 16) × (weight 4 (λ i j. 1) 3 ≡ 16)
unfolding weight over sum prod count put leads led all moves
weights_complete = (refl, refl, refl, refl)

-- what flows into each state flows out of it: 87 × 5 + 50 × 11 = 197 × (2 + 3)
balanced_six : Balanced 3 six (λ i. weight 3 six i)
unfolding weight over sum prod count put leads led all moves six
balanced_six = record {
  at = elim [ zero ↦ λ l. refl | suc zero ↦ λ l. refl | suc (suc zero) ↦ λ l. refl | suc (suc (suc j)) ↦ λ l. absurd (omega arith) ];
}
