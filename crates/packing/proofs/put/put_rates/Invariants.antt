use Rattle.packing.proofs.MapLaws.{Putting}
use Rattle.packing.proofs.put.put_rates.Given as goal

abbrev pub invariant-loop-rate : goal.invariant-loop-rate
invariant-loop-rate l = Putting l.form l.rates l.initial.out l.m l.out l.rate-index l.a
