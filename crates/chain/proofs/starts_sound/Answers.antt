use mathlib.Core.Path.{◌∙◌, sym}
use native.Mathlib.Omega.{arith}
use Rattle.basics.proofs.FoundLaws.{found_is_some, found_is_none}
use Rattle.chain.proofs.RulesLaws.{starts_miscounted, starts_not_zero, starts_fall, starts_end}
use Rattle.chain.specs.Rules.{falls_at}
use Rattle.chain.proofs.starts_sound.Goals as goal

pub returns-then-starts-n : goal.returns-then-starts-n
returns-then-starts-n c = sym (starts_miscounted _ _ _ c.if-starts-n.true)

pub returns-then-starts-ne0 : goal.returns-then-starts-ne0
returns-then-starts-ne0 c = sym (starts_not_zero _ _ _ c.if-starts-ne0.true)

pub returns-then-is_some : goal.returns-then-is_some
returns-then-is_some c =
    let l = found_is_some (falls_at c.args.starts.now) 0 c.args.n _ c.first_fall.ensures (sym c.is_some.ensures ∙ c.if-is_some.true) in
    sym (starts_fall _ _ _ (λ e. omega (arith, l, e)))

pub returns : goal.returns
returns c =
    let e = found_is_none (falls_at c.args.starts.now) 0 c.args.n _ (omega arith) c.first_fall.ensures (sym c.is_some.ensures ∙ c.if-is_some.false) in
    sym (starts_end _ _ _ c.if-starts-n.false c.if-starts-ne0.false e)
