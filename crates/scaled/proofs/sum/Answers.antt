-- The operands are tested, then the range. Assumes nothing.
use mathlib.Core.Path.{sym, ◌∙◌}
use Rattle.scaled.specs.Scaled.{is_scaled, sum_of, rounded_sum}
use Rattle.scaled.proofs.Forms.{one_refused}
use Rattle.scaled.proofs.NearestLaws.{sum_promised}
use Rattle.scaled.proofs.sum.Goals as goal

pub returns-then-not-are_scaled : goal.returns-then-not-are_scaled
unfolding is_scaled sum_of rounded_sum
returns-then-not-are_scaled c =
    let p = sum_promised c.args.a c.args.b (sym (one_refused 31 _ _ _ (sym c.are_scaled.ensures ∙ c.if-not-are_scaled.true))) in
    record { value = p.0; rounded_to_nearest = p.1.0; none_exactly = p.1.1 }

pub returns : goal.returns
returns c =
    let p = sum_promised c.args.a c.args.b (c.ranged.ensures ∙ c.wide_sum.ensures) in
    record { value = p.0; rounded_to_nearest = p.1.0; none_exactly = p.1.1 }
