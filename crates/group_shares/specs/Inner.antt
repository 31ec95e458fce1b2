-- What the parts of `solve_groups` before solving answer. No public call cites it.
use Rattle.std.specs.Prelude.{Bool, true, false, cond, ◌&&◌, List, ℕ, leb}
use Rattle.refusal.specs.Table.{Verdict, accepts, refuses, of_chain, numbered, and_then}
use Rattle.chain.specs.Rows.{Rows}
use Rattle.chain.specs.Rules.{checked}
use Rattle.group_table.specs.Rules.{table_checked}

abbrev pub passes : Verdict ℕ → Bool
passes (accepts given) = true
passes (refuses side line) = false

-- the table passes for at most 64 states, and the places of the groups are there
unfoldable pub suits : ℕ → List ℕ → Bool → Bool
suits n table room = leb n 64 && passes (table_checked n table) && room

-- 1 to 4 and 14, then 13, 12 and 11, then 5 for the places of the groups: the first refusal, or the number of rows of the table
unfoldable pub admitted : Rows → List ℕ → Bool → Verdict ℕ
admitted c table room =
    and_then (checked c) (λ _. and_then (table_checked c.order table) (λ k. cond room (accepts k) (refuses of_chain (numbered 5 0 0))))
