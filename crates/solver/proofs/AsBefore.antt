-- R-3 changes nothing where every state reaches every other: no closed set but that of all states, so that such a chain has an answer, and
-- its bound count, weights and shares are bit for bit those of the elimination of all its states. Assumes nothing.
use mathlib.Core.Bool.{true}
use mathlib.Core.Path.{◌≡◌, ap}
use Prim.Native.Nat.{ℕ, ◌<◌}
use Rattle.markov.specs.Chain.{Irreducible}
use Rattle.markov.specs.Closed.{HasAnswer}
use Rattle.markov.specs.Count.{bound_count}
use Rattle.markov.proofs.WholeSet.{size_full, set_weight_full, set_weights_full, set_shares_full, irreducible_full, irreducible_answer}
use Rattle.chain.specs.Rows.{Rows}
use Rattle.chain.specs.Sound.{Accepted}
use Rattle.chain.specs.Meaning.{rate_in}
use Rattle.reach.specs.Answer.{set_of}
use Rattle.reach.proofs.AnswerLaws.{answer_set}
use Rattle.kernel.specs.Numbers.{ops}
use Rattle.solver.specs.Solve.{entries, set_size, weights_of, shares_of, count_of, WholeChain}

module _ (c : Rows) (s : Accepted c) (h : Irreducible c.order (rate_in c)) where
  answer : HasAnswer c.order (rate_in c)
  answer = irreducible_answer h s.sound.order.low

  -- the set has every state
  full : (i : ℕ) → i < c.order → set_of c i ≡ true
  full = irreducible_full h (answer_set c s.sound answer).closed

  pub as_before : HasAnswer c.order (rate_in c) × WholeChain c
  unfolding count_of set_size weights_of shares_of
  as_before = (
    answer,
    record {
      set = full;
      count = ap bound_count (size_full c.order (set_of c) full);
      exact = set_weight_full c.order (set_of c) full (rate_in c);
      weights = set_weights_full c.order (set_of c) full ops (entries c);
      shares = set_shares_full c.order (set_of c) full ops (entries c);
    },
  )
