use mathlib.Core.Bool.{Bool, ◌||◌}
use mathlib.Core.Path.{ap, ◌∙◌}
use Rattle.reach.specs.Reach.{stands}
use Rattle.reach.proofs.MaskLaws.{stands_or, one_stands}
use Rattle.reach.proofs.set_bit.Goals as goal

pub returns : goal.returns
returns c = λ i. stands_or c.args.mask _ i ∙ ap (λ (b : Bool). stands c.args.mask i || b) (one_stands c.args.j i c.requires)
