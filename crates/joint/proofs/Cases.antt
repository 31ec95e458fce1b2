-- What the contract of `join` says of the lent slices, by evaluation of the definitions: a refusal leaves them as they were, and an
-- acceptance the places beyond. Assumes nothing.
use mathlib.Core.List.{[], ◌∷◌}
use mathlib.Core.Path.{◌≡◌}
use lib.ListN.{replicate}
use Rattle.basics.specs.Sum.{sum}
use Rattle.basics.specs.Below.{count}
use Rattle.basics.specs.Lists.{table}
use Rattle.refusal.specs.declared.Refusal.TheVariants.{Chain}
use Rattle.refusal.specs.declared.ChainReason.TheVariants as chain
use Rattle.markov.specs.Product.{joint_rate}
use Rattle.chain.specs.Meaning.{rate_in}
use Rattle.from_rates.specs.FromRates.{together, from_rates}
use Rattle.layout.specs.Buffers.{Buffers, buffers}
use Rattle.joined.specs.Joined.{joined}
use Rattle.joined.proofs.Cases.{two, still, zero_rate}
use Rattle.std.specs.Prelude.{Ok, Err}
use Rattle.joint.specs.declared.JoinRefusal.TheVariants.{First}
use Rattle.joint.specs.Joining.{Joins}

pub places_kept : {new : Buffers} → Joins zero_rate two (buffers (7 ∷ []) (8 ∷ []) (9 ∷ [])) (Err (First (Chain (chain.ZeroRate 0 1)))) new
    → (new.starts ≡ 7 ∷ []) × (new.columns ≡ 8 ∷ []) × (new.rates ≡ 9 ∷ [])
unfolding joined from_rates together table joint_rate rate_in sum count
places_kept j = (j.starts_are, j.columns_are, j.rates_are)

pub places_beyond : {new : Buffers} → Joins (still 1 (0 ∷ 0 ∷ [])) two (buffers (replicate 5 7) (replicate 4 8) (replicate 3 9)) (Ok 2) new
    → (new.starts ≡ 0 ∷ 1 ∷ 2 ∷ 7 ∷ 7 ∷ []) × (new.columns ≡ 1 ∷ 0 ∷ 8 ∷ 8 ∷ []) × (new.rates ≡ 3 ∷ 1 ∷ 9 ∷ [])
unfolding joined from_rates together table joint_rate rate_in sum count
places_beyond j = (j.starts_are, j.columns_are, j.rates_are)
