-- `stall_solve_groups`: what the call within promises, and the answer by its verdict. Assumes nothing.
use Rattle.stall.proofs.Calls.{groups_called}
use Rattle.stall.proofs.stall_solve_groups.Goals as goal

pub returns : goal.returns
returns c =
    groups_called c.solve_groups-outcome.ensures c.tell_count.ensures
