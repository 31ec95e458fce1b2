use Rattle.packing.proofs.Storing.{Storing}
use Rattle.packing.proofs.put.put_chain.Given as goal

abbrev pub invariant-loop-row : goal.invariant-loop-row
invariant-loop-row l = Storing l.form l.sound.sound l.initial.out l.out l.row l.m
