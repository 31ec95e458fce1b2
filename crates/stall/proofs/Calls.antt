-- An exported call from the call within. Assumes nothing.
use mathlib.Core.List.{List}
use mathlib.Core.Path.{subst}
use Prim.Native.Nat.{ℕ}
use Rattle.std.specs.Prelude.{Result}
use Rattle.refusal.specs.declared.Refusal.{Refusal}
use Rattle.refusal.specs.Table.{Verdict, verdict}
use Rattle.chain.specs.Rows.{Rows}
use Rattle.file_rules.specs.Sound.{zeros_refused}
use Rattle.storage.specs.declared.Reading.{Reading}
use Rattle.layout.specs.declared.Form.{Form}
use Rattle.layout.specs.Buffers.{Buffers}
use Rattle.storage.specs.Reading.{told, Read}
use Rattle.storage.specs.Writing.{Written}
use Rattle.joined.specs.Verdict.{Whose}
use Rattle.joint.specs.declared.JoinRefusal.{JoinRefusal}
use Rattle.joint.specs.Joining.{told_joining, Joins}
use Rattle.solver.specs.Lent.{Lent}
use Rattle.solver.specs.Solve.{Solved}
use Rattle.group_shares.specs.GroupShares.{GroupLent, GroupsSolved}
use Rattle.telling.specs.Answer.{CountTold, ReadingTold, JoiningTold}
use Rattle.stall.specs.Calls.{SolveCalled, GroupsCalled, ReadCalled, WriteCalled, JoinCalled}

module _ {answer : List ℕ} {r : ℕ} {answer' : List ℕ} where
  pub solve_called : {c : Rows} {old : Lent} {o : Result ℕ Refusal} {new : Lent} → Solved c old o new → CountTold (verdict o) answer r answer' → SolveCalled c old answer r new answer'
  solve_called {o = o} s t = record { outcome = o; call = s; told = subst (λ (v : Verdict ℕ). CountTold v answer r answer') s.answer t }

  pub groups_called : {c : Rows} {table : List ℕ} {old : GroupLent} {o : Result ℕ Refusal} {new : GroupLent} → GroupsSolved c table old o new
      → CountTold (verdict o) answer r answer' → GroupsCalled c table old answer r new answer'
  groups_called {o = o} s t = record { outcome = o; call = s; told = subst (λ (v : Verdict ℕ). CountTold v answer r answer') s.answer t }

  pub read_called : {bytes : List ℕ} {old : Buffers} {o : Result Reading Refusal} {new : Buffers} → Read zeros_refused bytes old o new → ReadingTold (told o) answer r answer'
      → ReadCalled bytes old answer r new answer'
  read_called {o = o} s t = record { outcome = o; call = s; told = subst (λ (v : Verdict (ℕ × ℕ × Form)). ReadingTold v answer r answer') s.answer t }

  pub write_called : {form : Form} {c : Rows} {out : List ℕ} {o : Result ℕ Refusal} {out' : List ℕ} → Written form c out o out' → CountTold (verdict o) answer r answer'
      → WriteCalled form c out answer r out' answer'
  write_called {o = o} s t = record { outcome = o; call = s; told = subst (λ (v : Verdict ℕ). CountTold v answer r answer') s.answer t }

  pub join_called : {first second : Rows} {old : Buffers} {o : Result ℕ JoinRefusal} {new : Buffers} → Joins first second old o new → JoiningTold (told_joining o) answer r answer'
      → JoinCalled first second old answer r new answer'
  join_called {o = o} s t = record { outcome = o; call = s; told = subst (λ (v : Whose × Verdict ℕ). JoiningTold v answer r answer') s.answer t }
