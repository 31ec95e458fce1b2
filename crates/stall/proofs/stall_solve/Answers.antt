-- `stall_solve`: what the call within promises, and the answer by its verdict. Assumes nothing.
use Rattle.stall.proofs.Calls.{solve_called}
use Rattle.stall.proofs.stall_solve.Goals as goal

pub returns : goal.returns
returns c = solve_called c.solve-outcome.ensures c.tell_count.ensures
