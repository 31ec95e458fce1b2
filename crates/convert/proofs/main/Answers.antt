-- No answer is longer than the buffer.
use Rattle.input.proofs.FrontLaws.{fits}
use Rattle.convert.proofs.main.Goals as goal

pub run-requires-clause-fits : goal.run-requires-clause-fits
run-requires-clause-fits c = λ bytes buffer n after p. fits _ n _ _ _ p.out_is p.count_is p.within
