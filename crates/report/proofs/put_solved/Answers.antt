-- The text is that of what solving answers: its arrays have room for every chain. Assumes nothing.
use Prim.Native.Nat.{◌≤◌}
use mathlib.Core.Path.{refl}
use native.Mathlib.Omega.{arith}
use lib.ListN.{length}
use Rattle.lines.specs.Lines.{answer_lines}
use Rattle.report.specs.Report.{longest}
use Rattle.report.proofs.Outcomes.{room_enough, answer_room, put_done, put_stopped}
use borrow.Author.Rules.{rules}
use Rattle.report.proofs.put_solved.Goals as goal

pub put_answer-requires : goal.put_answer-requires
put_answer-requires c =
    let short : length (answer_lines c.args.chain.order c.in-Ok.bound _ _) ≤ longest =
    answer_room c.in-Ok.ensures
    (room_enough c.requires.1 (search rules) (search rules) (search rules) (search rules) (search rules) (search rules)) refl in
    (omega (arith, short, c.requires.0), search rules, search rules, search rules, search rules)

pub returns-in-Ok : goal.returns-in-Ok
returns-in-Ok c =
    put_done c.in-Ok.ensures
    (room_enough c.requires.1 (search rules) (search rules) (search rules) (search rules) (search rules) (search rules))
    refl c.put_answer.ensures

pub returns-in-Err : goal.returns-in-Err
returns-in-Err c =
    put_stopped c.in-Err.ensures
    (room_enough c.requires.1 (search rules) (search rules) (search rules) (search rules) (search rules) (search rules))
    refl c.put_refusal.ensures
