-- `stall_write`: what the call within promises, and the answer by its verdict. Assumes nothing.
use Rattle.stall.proofs.Calls.{write_called}
use Rattle.stall.proofs.stall_write.Goals as goal

pub returns : goal.returns
returns c = write_called c.write-outcome.ensures c.tell_count.ensures
