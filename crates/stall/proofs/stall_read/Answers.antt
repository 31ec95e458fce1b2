-- `stall_read`: what the call within promises, and the answer by its verdict. Assumes nothing.
use Rattle.stall.proofs.Calls.{read_called}
use Rattle.stall.proofs.stall_read.Goals as goal

pub returns : goal.returns
returns c = read_called c.read-reading.ensures c.tell_reading.ensures
