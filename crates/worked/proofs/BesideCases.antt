-- What the promise of product shares says of case 2 beside itself, in numbers; its name puts it early, so that a wrong statement is refused here.
-- Assumes nothing.
use mathlib.Core.Bool.{true}
use Prim.Native.Nat.{ℕ, ◌*◌}
use lib.Dec.{lit<}
use Rattle.basics.specs.Sum.{sum, prod}
use Rattle.basics.specs.Below.{count, all, put}
use Rattle.basics.specs.Near.{Near}
use Rattle.markov.specs.Weight.{over, led, leads, moves, weight}
use Rattle.markov.specs.Closed.{size, member, alone, spread, set_weight}
use Rattle.markov.specs.Product.{joint_set}
use Rattle.scaled.specs.declared.Scaled.{Scaled}
use Rattle.scaled.specs.Units.{val, one, factor}
use Rattle.chain.specs.Meaning.{rate_in}
use Rattle.worked.specs.Table.{chain2}
use Rattle.worked.specs.SideBySide.{ProductShares}

-- the share of 0 × 2 + 1 lies within 2 × 64 + 4 factors of 1 / 4 × 3 / 4
pub share_1_in_numbers : {share : ℕ → Scaled} → ProductShares 2 2 (rate_in chain2) (rate_in chain2) (λ i. true) (λ i. true) 64 share
    → Near factor 132 (val (share 1) * (4 * 4)) (one * (1 * 3))
unfolding set_weight spread weight over led leads moves alone member size joint_set rate_in all put sum prod count
share_1_in_numbers p = p.near 0 1 (lit< tt) (lit< tt)
