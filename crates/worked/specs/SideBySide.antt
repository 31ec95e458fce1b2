-- Document 02, R-6: "Solve it with what exists." What a joining and a solving, one after the other, give. The proof is in
-- proofs/JoinedSolved.antt.
use Rattle.std.specs.Prelude.{Result}
use Rattle.std.specs.Prelude.{Bool, ◌≡◌, ℕ, ◌+◌, ◌*◌, ◌<◌}
use Rattle.basics.specs.Sum.{sum}
use Rattle.basics.specs.Near.{Near}
use Rattle.refusal.specs.Table.{accepts, verdict}
use Rattle.refusal.specs.declared.Refusal.{Refusal}
use Rattle.markov.specs.Chain.{Rates}
use Rattle.markov.specs.Closed.{OnlyClosed, size, set_weight}
use Rattle.markov.specs.Product.{joint_set}
use Rattle.scaled.specs.declared.Scaled.{Scaled}
use Rattle.scaled.specs.Units.{val, one, factor}
use Rattle.chain.specs.Rows.{Rows}
use Rattle.chain.specs.Meaning.{rate_in}
use Rattle.layout.specs.Buffers.{Buffers, chain_in}
use Rattle.kernel.specs.Slices.{number_at}
use Rattle.solver.specs.Lent.{Lent, Roomy}
use Rattle.solver.specs.Solve.{count_of, Solved}
use Rattle.joined.specs.Verdict.{of_joint}
use Rattle.joint.specs.declared.JoinRefusal.{JoinRefusal}
use Rattle.joint.specs.Joining.{told_joining, Joins}

-- each computed share of the joint chain lies within its count of factors, 2K + r where the joint closed set has r states, of the PRODUCT
-- of the parts' exact shares; divisors multiplied across
pub record ProductShares (a b : ℕ) (f g : Rates) (S T : ℕ → Bool) (count : ℕ) (share' : ℕ → Scaled) : Type 0 where
  pub near : (i j : ℕ) → i < a → j < b
      → Near factor (2 * count + size (a * b) (joint_set b S T))
      (val (share' (i * b + j)) * (sum a (set_weight a f S) * sum b (set_weight b g T)))
      (one * (set_weight a f S i * set_weight b g T j))

-- what an accepted joining of two parts with answers leaves, solved with room, is accepted, and its shares are the products
abbrev pub JoinThenSolve : Type 0
JoinThenSolve =
    (first second : Rows) (old : Buffers) (r : Result ℕ JoinRefusal) (new : Buffers) → Joins first second old r new → (e : ℕ) → told_joining r ≡ (of_joint, accepts e)
    → (S T : ℕ → Bool) → OnlyClosed first.order (rate_in first) S → OnlyClosed second.order (rate_in second) T
    → let c = chain_in new (first.order * second.order) e in
    (lent : Lent) (o : Result ℕ Refusal) (lent' : Lent) → Solved c lent o lent' → Roomy c.order lent
    → (verdict o ≡ accepts (count_of c))
    × ProductShares first.order second.order (rate_in first) (rate_in second) S T (count_of c) (number_at lent'.shares)
