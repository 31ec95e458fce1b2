-- The contracts of the exported calls, for any input: an outcome of the proved call within, with what that call promises of it and of
-- every lent place; the number that is returned, and the answer slice, by document 01's verdict.
use Rattle.std.specs.Prelude.{List, ℕ, length, Result}
use Rattle.refusal.specs.declared.Refusal.{Refusal}
use Rattle.chain.specs.Rows.{Rows}
use Rattle.storage.specs.declared.Reading.{Reading}
use Rattle.layout.specs.declared.Form.{Form}
use Rattle.layout.specs.Buffers.{Buffers}
use Rattle.file_rules.specs.Sound.{zeros_refused}
use Rattle.file_rules.specs.Verdict.{read_verdict}
use Rattle.storage.specs.Reading.{Read}
use Rattle.storage.specs.Writing.{write_verdict, Written}
use Rattle.joined.specs.Verdict.{join_verdict}
use Rattle.joint.specs.declared.JoinRefusal.{JoinRefusal}
use Rattle.joint.specs.Joining.{Joins}
use Rattle.solver.specs.Lent.{Lent, enough_in}
use Rattle.solver.specs.Solve.{solved, Solved}
use Rattle.group_shares.specs.GroupShares.{GroupLent, enough_for, groups_solved, GroupsSolved}
use Rattle.telling.specs.Answer.{CountTold, ReadingTold, JoiningTold}

pub record SolveCalled (c : Rows) (old : Lent) (answer : List ℕ) (r : ℕ) (new : Lent) (answer' : List ℕ) : Type 0 where
  pub outcome : Result ℕ Refusal
  pub call : Solved c old outcome new
  pub told : CountTold (solved c (enough_in c.order old)) answer r answer'

pub record GroupsCalled (c : Rows) (table : List ℕ) (old : GroupLent) (answer : List ℕ) (r : ℕ) (new : GroupLent) (answer' : List ℕ) : Type 0 where
  pub outcome : Result ℕ Refusal
  pub call : GroupsSolved c table old outcome new
  pub told : CountTold (groups_solved c table (enough_for c.order old)) answer r answer'

pub record ReadCalled (bytes : List ℕ) (old : Buffers) (answer : List ℕ) (r : ℕ) (new : Buffers) (answer' : List ℕ) : Type 0 where
  pub outcome : Result Reading Refusal
  pub call : Read zeros_refused bytes old outcome new
  pub told : ReadingTold (read_verdict zeros_refused bytes (length old.starts) (length old.columns) (length old.rates)) answer r answer'

pub record WriteCalled (form : Form) (c : Rows) (out answer : List ℕ) (r : ℕ) (out' answer' : List ℕ) : Type 0 where
  pub outcome : Result ℕ Refusal
  pub call : Written form c out outcome out'
  pub told : CountTold (write_verdict form c (length out)) answer r answer'

pub record JoinCalled (first second : Rows) (old : Buffers) (answer : List ℕ) (r : ℕ) (new : Buffers) (answer' : List ℕ) : Type 0 where
  pub outcome : Result ℕ JoinRefusal
  pub call : Joins first second old outcome new
  pub told : JoiningTold (join_verdict first second (length old.starts) (length old.columns) (length old.rates)) answer r answer'
