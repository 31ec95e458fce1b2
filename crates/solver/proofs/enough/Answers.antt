-- One pair of slices after the other. Assumes nothing.
use mathlib.Core.Bool.{false≢true}
use mathlib.Core.Path.{sym, ◌∙◌}
use Rattle.solver.specs.Lent.{enough}
use Rattle.solver.proofs.enough.Goals as goal
use Rattle.solver.proofs.enough.Goals.{then-both_have, else-both_have}

pub returns-then-both_have-2 : goal.returns-then-both_have-2
unfolding enough
returns-then-both_have-2 c =
    elim c.if-both_have.branch [
      | then-both_have w ↦
          c.both_have-then-both_have-2.ensures
          ∙ rw (sym c.both_have.ensures ∙ w.if-both_have.true, sym w.both_have-then-both_have.ensures ∙ sym w.value-is ∙ c.if-both_have-2.true)
      | else-both_have w ↦ absurd (false≢true (sym w.if-both_have.false ∙ sym w.value-is ∙ c.if-both_have-2.true))
    ]

pub returns-else-both_have-2 : goal.returns-else-both_have-2
unfolding enough
returns-else-both_have-2 c =
    elim c.if-both_have.branch [
      | then-both_have w ↦
          c.if-both_have-2.false
          ∙ rw (sym c.both_have.ensures ∙ w.if-both_have.true, sym w.both_have-then-both_have.ensures ∙ sym w.value-is ∙ c.if-both_have-2.false)
      | else-both_have w ↦ c.if-both_have-2.false ∙ rw (sym c.both_have.ensures ∙ w.if-both_have.false)
    ]
