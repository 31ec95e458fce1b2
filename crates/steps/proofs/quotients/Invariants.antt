-- The loop's invariant: the quotients stand up to, not including, column j. Assumes nothing.
use Rattle.std.proofs.Common.{◌+◌}
use Rattle.kernel.specs.Numbers.{divided_by}
use Rattle.kernel.specs.Lent.{entry_of, Rewritten}
use Rattle.updating.specs.Inner.{Mapped}
use Rattle.steps.proofs.quotients.Given as goal

abbrev pub invariant-loop-j : goal.invariant-loop-j
invariant-loop-j l = let x = l.initial.x in Rewritten (Mapped x.order l.k (l.k + 1) l.j (λ b. divided_by (entry_of x l.k b) l.s)) x l.x
