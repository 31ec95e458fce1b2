-- Two parts side by side: where each has exactly one closed set, so has the joint chain, and its shares are the products of theirs.
-- Assumes nothing.
use mathlib.Core.Bool.{Bool}
use mathlib.Core.Path.{◌≡◌}
use Prim.Native.Nat.{ℕ, ◌+◌, ◌*◌, ◌<◌}
use Rattle.basics.specs.Sum.{sum}
use Rattle.markov.specs.Chain.{Rates}
use Rattle.markov.specs.Closed.{OnlyClosed, set_weight}
use Rattle.markov.specs.Product.{joint_set}
use Rattle.markov.proofs.Product.{IsJoint}
use Rattle.markov.proofs.ProductSets.{joint_only, joint_shares}
use Rattle.reach.proofs.Settled.{reaches_only}
use Rattle.reach.proofs.OneClosed.{via_tells}

module _ {a b : ℕ} {f g h : Rates} (J : IsJoint a b f g h) {S T : ℕ → Bool} (s : OnlyClosed a f S) (t : OnlyClosed b g T) where
  pub both_only : OnlyClosed (a * b) h (joint_set b S T)
  both_only = joint_only J s.closed t.closed (reaches_only (via_tells a f) s) (reaches_only (via_tells b g) t)

  pub both_shares : (i j : ℕ) → i < a → j < b
      → set_weight (a * b) h (joint_set b S T) (i * b + j) * (sum a (set_weight a f S) * sum b (set_weight b g T))
      ≡ set_weight a f S i * set_weight b g T j * sum (a * b) (set_weight (a * b) h (joint_set b S T))
  both_shares = joint_shares J s.closed t.closed (reaches_only (via_tells a f) s) (reaches_only (via_tells b g) t)
