use mathlib.Core.Path.{refl, ◌∙◌, sym}
use borrow.Author.Tests.{eq-eqb, ne_eqb}
use Rattle.basics.proofs.BoolLaws.{by_true, by_false}
use Rattle.chain.specs.Rules.{rules_checked}
use Rattle.chain.proofs.lent.Chain.check_rules.Goals as goal

pub returns-then-not-order_sound : goal.returns-then-not-order_sound
unfolding rules_checked
returns-then-not-order_sound c = by_false _ _ (sym c.order_sound.ensures ∙ c.if-not-order_sound.true) refl

pub returns-then-self : goal.returns-then-self
unfolding rules_checked
returns-then-self c =
    by_true _ _ (sym c.order_sound.ensures ∙ c.if-not-order_sound.false)
    (by_false _ _ (ne_eqb _ _ c.if-self.true) refl)

pub returns-then-not-starts_sound : goal.returns-then-not-starts_sound
unfolding rules_checked
returns-then-not-starts_sound c =
    by_true _ _ (sym c.order_sound.ensures ∙ c.if-not-order_sound.false)
    (by_true _ _ (eq-eqb _ _ c.if-self.false)
    (by_false _ _ (sym c.starts_sound.ensures ∙ c.if-not-starts_sound.true) refl))

pub returns : goal.returns
unfolding rules_checked
returns c =
    by_true _ _
    (sym c.order_sound.ensures ∙ c.if-not-order_sound.false)
    (by_true _ _ (eq-eqb _ _ c.if-self.false)
    (by_true _ _ (sym c.starts_sound.ensures ∙ c.if-not-starts_sound.false) c.check_columns.ensures))
