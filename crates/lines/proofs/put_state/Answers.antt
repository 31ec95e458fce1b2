-- A state's line in four parts. Assumes nothing.
use Rattle.lines.proofs.LineLaws.{state_put}
use Rattle.lines.proofs.put_state.Goals as goal

pub returns : goal.returns
returns c = state_put _ _ _ c.put_number-p.ensures c.put_scaled-p.ensures c.put_scaled-p-2.ensures c.put_byte.ensures
