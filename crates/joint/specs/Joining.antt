-- Document 02, R-6: what a joining leaves in the lent slices, for any input.
use Rattle.std.specs.Prelude.{◌≡◌, ℕ, ◌*◌, length, Result, Ok, Err}
use Rattle.refusal.specs.Table.{Verdict, accepts, refusal, after}
use Rattle.chain.specs.Rows.{Rows}
use Rattle.layout.specs.Buffers.{Buffers, chain_in}
use Rattle.joined.specs.Joined.{joined, JointChain}
use Rattle.joined.specs.Verdict.{Whose, of_first, of_second, of_joint, join_verdict, JoinSays}
use Rattle.joint.specs.declared.JoinRefusal.{JoinRefusal}
use Rattle.joint.specs.declared.JoinRefusal.TheVariants.{First, Second, Joint}

-- whose, and with it the number of entries or the refusal: the side at fault, its number and its two places
abbrev pub told_joining : Result ℕ JoinRefusal → Whose × Verdict ℕ
told_joining (Ok entries) = (of_joint, accepts entries)
told_joining (Err (First r)) = (of_first, refusal r)
told_joining (Err (Second r)) = (of_second, refusal r)
told_joining (Err (Joint r)) = (of_joint, refusal r)

-- ---- the contract of `join`, with the lent slices as they were and as they are at exit

pub record Joins (first second : Rows) (old : Buffers) (r : Result ℕ JoinRefusal) (new : Buffers) : Type 0 where
  pub answer : told_joining r ≡ join_verdict first second (length old.starts) (length old.columns) (length old.rates)
  pub says : JoinSays first second (length old.starts) (length old.columns) (length old.rates) (told_joining r)
  pub starts_are : new.starts ≡ after (told_joining r).1 old.starts (joined first second).starts
  pub columns_are : new.columns ≡ after (told_joining r).1 old.columns (joined first second).columns
  pub rates_are : new.rates ≡ after (told_joining r).1 old.rates (joined first second).rates
  -- joined: the chain that now stands in the slices
  pub joint : (e : ℕ) → told_joining r ≡ (of_joint, accepts e) → JointChain first second (chain_in new (first.order * second.order) e)
