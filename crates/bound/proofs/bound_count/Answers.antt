-- The bound count: no value on the way leaves its type or falls below 0 (the tactics find that), and the division leaves no rest. Assumes nothing.
use native.Mathlib.Omega.{arith}
use Rattle.markov.proofs.CountLaws.{bound_count_formula}
use Rattle.bound.proofs.bound_count.Goals as goal

pub returns : goal.returns
returns c = omega (arith, bound_count_formula c.args.n)
