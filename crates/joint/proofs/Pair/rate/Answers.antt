-- The part that moves is looked up. Assumes nothing.
use mathlib.Core.Path.{◌∙◌}
use native.Mathlib.Omega.{arith}
use Rattle.joined.proofs.RateLaws.{first_rate, second_rate, no_rate}
use Rattle.joint.proofs.Pair.rate.Goals as goal

pub returns-then-x-b : goal.returns-then-x-b
returns-then-x-b c =
    c.rate_of.ensures ∙ first_rate c.args.self.joinable c.args.x c.args.y (omega (arith, c.if-x-b.true))

pub returns-then-x-b-2 : goal.returns-then-x-b-2
returns-then-x-b-2 c =
    c.rate_of-then-x-b-2.ensures ∙ second_rate c.args.self.joinable c.args.x c.args.y c.if-x-b.false (omega (arith, c.if-x-b-2.true))

pub returns : goal.returns
returns c =
    no_rate c.args.self.joinable c.args.x c.args.y c.if-x-b.false c.if-x-b-2.false
