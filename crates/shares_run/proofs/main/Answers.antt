-- No answer is longer than the buffer.
use Rattle.input.proofs.FrontLaws.{fits}
use Rattle.shares_run.proofs.main.Goals as goal

pub run_each-requires-clause-fits : goal.run_each-requires-clause-fits
run_each-requires-clause-fits c = λ bytes buffer n after p. fits _ n _ _ _ p.out_is p.count_is p.within
