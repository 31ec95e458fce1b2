-- The operands are tested, then the range; by Zero there is no quotient. Assumes nothing.
use mathlib.Core.Path.{sym, ap, ◌∙◌}
use borrow.Author.Tests.{eqb-false}
use Rattle.std.proofs.lemmas.Bool.{and_parts}
use Rattle.scaled.specs.declared.Scaled.{Scaled}
use Rattle.scaled.specs.Scaled.{is_zero, is_scaled, quotient_of, rounded_quotient}
use Rattle.scaled.proofs.Forms.{one_refused, both_scaled}
use Rattle.scaled.proofs.NearestLaws.{quotient_promised}
use Rattle.scaled.proofs.quotient.Goals as goal
use Rattle.scaled.proofs.quotient.Goals.{then-not-are_scaled-via-then-not-are_scaled, then-not-are_scaled-via-else-not-are_scaled+then-is_zero}

pub returns-then-not-are_scaled : goal.returns-then-not-are_scaled
unfolding is_zero is_scaled quotient_of rounded_quotient
returns-then-not-are_scaled c =
    let p =
    quotient_promised c.args.a c.args.b
    (elim c.then-not-are_scaled.branch [
      | then-not-are_scaled-via-then-not-are_scaled w ↦ sym (one_refused 31 _ _ _ (sym c.are_scaled.ensures ∙ w.if-not-are_scaled.true))
      | then-not-are_scaled-via-else-not-are_scaled+then-is_zero w ↦
          (let s = and_parts _ _ (sym c.are_scaled.ensures ∙ w.if-not-are_scaled.false) in
          rw (sym w.is_zero.ensures ∙ w.if-is_zero.true) (both_scaled 31 _ _ _ s.0 s.1))
    ]) in
    record { value = p.0; rounded_to_nearest = p.1.0; none_exactly = p.1.1 }

pub wide_quotient-requires : goal.wide_quotient-requires
unfolding is_zero
wide_quotient-requires c =
    let s = and_parts _ _ (sym c.are_scaled.ensures ∙ c.if-not-are_scaled.false) in
    (s.0, s.1, λ z. eqb-false c.args.b.m 0 (sym c.is_zero.ensures ∙ c.if-is_zero.false) (ap (λ (x : Scaled). x.m) z))

pub returns : goal.returns
returns c =
    let p = quotient_promised c.args.a c.args.b (c.ranged.ensures ∙ c.wide_quotient.ensures) in
    record { value = p.0; rounded_to_nearest = p.1.0; none_exactly = p.1.1 }
