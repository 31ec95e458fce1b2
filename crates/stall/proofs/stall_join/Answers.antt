-- `stall_join`: what the call within promises, and the answer by its verdict. Assumes nothing.
use Rattle.stall.proofs.Calls.{join_called}
use Rattle.stall.proofs.stall_join.Goals as goal

pub returns : goal.returns
returns c = join_called c.join-joining.ensures c.tell_joining.ensures
