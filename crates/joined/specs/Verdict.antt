-- Document 02, R-6: what a joining answers, for any two chains and lent slices of any lengths.
use Rattle.std.specs.Prelude.{cond, ℕ, ◌*◌, ◌≤◌, ◌<◌, leb, length}
use Rattle.refusal.specs.Table.{Verdict, Side, accepts, refuses, of_chain, numbered}
use Rattle.refusal.specs.declared.Line.{Line}
use Rattle.chain.specs.Rows.{Rows}
use Rattle.chain.specs.Rules.{checked}
use Rattle.chain.specs.Sound.{Accepted, Says}
use Rattle.file_rules.specs.Verdict.{room_to_read, HasRoom}
use Rattle.joined.specs.Joined.{joined, entries_of}

-- whose answer it is: a part's, which is a refusal, or that of the joint chain
pub data Whose : Type 0 where
  of_first of_second of_joint : Whose

-- a part's refusal is passed on as that part's; otherwise what is tried next decides
abbrev pub part_then : Whose → Verdict ℕ → Whose × Verdict ℕ → Whose × Verdict ℕ
part_then whose (accepts entries) next = next
part_then whose (refuses side line) next = (whose, refuses side line)

-- "then an a × b above 64 is 15, then 5", for a joint chain of order n with so many entries and lent slices of these lengths: it needs
-- a × b + 1 starts and one place for each entry
unfoldable pub joint_tried : ℕ → ℕ → ℕ → ℕ → ℕ → Verdict ℕ
joint_tried n entries starts columns rates =
    cond (leb n 64)
    (cond (room_to_read n entries starts columns rates) (accepts entries) (refuses of_chain (numbered 5 0 0)))
    (refuses of_chain (numbered 15 0 0))

-- "The first part passes 1 to 4 and 14, then the second", then the joint chain
unfoldable pub join_verdict : Rows → Rows → ℕ → ℕ → ℕ → Whose × Verdict ℕ
join_verdict first second starts columns rates =
    part_then of_first (checked first)
    (part_then of_second (checked second)
    (of_joint, joint_tried (first.order * second.order) (length (joined first second).columns) starts columns rates))

-- ---- the same as plain facts

-- both parts are taken and their joint chain has at most 64 states
pub record Joinable (first second : Rows) : Type 0 where
  pub first_accepted : Accepted first
  pub second_accepted : Accepted second
  pub order : first.order * second.order ≤ 64

-- what each answer says: what is tried before holds and this does not, or all holds
pub data JoinSays (first second : Rows) (starts columns rates : ℕ) : Whose × Verdict ℕ → Type 0 where
  first_broken : {side : Side} {line : Line} → Says first (refuses side line) → JoinSays first second starts columns rates (of_first, refuses side line)
  second_broken : {side : Side} {line : Line} → Accepted first → Says second (refuses side line)
      → JoinSays first second starts columns rates (of_second, refuses side line)
  order_broken : Accepted first → Accepted second → 64 < first.order * second.order
      → JoinSays first second starts columns rates (of_joint, refuses of_chain (numbered 15 0 0))
  room_short : Joinable first second → (HasRoom (first.order * second.order) (entries_of first second) starts columns rates → ⊥)
      → JoinSays first second starts columns rates (of_joint, refuses of_chain (numbered 5 0 0))
  joins : Joinable first second → HasRoom (first.order * second.order) (entries_of first second) starts columns rates
      → JoinSays first second starts columns rates (of_joint, accepts (entries_of first second))
