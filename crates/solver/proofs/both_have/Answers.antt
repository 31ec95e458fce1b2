-- One length after the other. Assumes nothing.
use mathlib.Core.Path.{sym, ◌∙◌}
use borrow.Author.Tests.{le-leb, lt-leb}
use Rattle.basics.proofs.BoolLaws.{and_no_first, and_decides}
use Rattle.solver.proofs.both_have.Goals as goal

pub returns-then-k-m : goal.returns-then-k-m
returns-then-k-m c = sym (and_decides _ _ (le-leb _ _ c.if-k-m.true))

pub returns-else-k-m : goal.returns-else-k-m
returns-else-k-m c = let e = lt-leb _ _ c.if-k-m.false in e ∙ sym (and_no_first _ _ e)
