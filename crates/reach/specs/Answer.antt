-- Document 02, R-3: "A chain now has an answer if and only if it has exactly one closed set"; refusal 6 and the answer's set.
use Rattle.std.specs.Prelude.{ℕ, Bool, cond, ltb, length}
use Rattle.refusal.specs.Table.{Verdict, Side, accepts, refuses, of_chain, numbered, and_then}
use Rattle.refusal.specs.declared.Line.{Line}
use Rattle.markov.specs.Closed.{HasAnswer}
use Rattle.chain.specs.Rows.{Rows}
use Rattle.chain.specs.Rules.{checked}
use Rattle.chain.specs.Sound.{Accepted, Says}
use Rattle.chain.specs.Meaning.{rate_in}
use Rattle.reach.specs.Reach.{via}
use Rattle.reach.specs.ClosedSets.{first_lowest, second_lowest, lowest_set, TwoClosed}

-- 6, or what is given where there is no second closed set
unfoldable pub one_closed : ℕ → (ℕ → ℕ → Bool) → ℕ → Verdict ℕ
one_closed n reached given =
    cond (ltb (second_lowest n reached) n)
    (refuses of_chain (numbered 6 (first_lowest n reached) (second_lowest n reached)))
    (accepts given)

-- the first of 1 to 4, 14 and 6 that applies, or the number of entries
unfoldable pub answered : Rows → Verdict ℕ
answered c = and_then (checked c) (λ _. one_closed c.order (via (rate_in c) c.order) (length c.columns))

-- the closed set of a chain that has an answer
unfoldable pub set_of : Rows → ℕ → Bool
set_of c = lowest_set c.order (via (rate_in c) c.order)

-- what each verdict of 1 to 4, 14 and 6 says of a chain
pub data AnswerSays (c : Rows) : Verdict ℕ → Type 0 where
  rule_broken : {side : Side} {line : Line} → Says c (refuses side line) → AnswerSays c (refuses side line)
  two_closed : {i j : ℕ} → Accepted c → TwoClosed c.order (rate_in c) i j → AnswerSays c (refuses of_chain (numbered 6 i j))
  has_answer : Accepted c → HasAnswer c.order (rate_in c) → AnswerSays c (accepts (length c.columns))
