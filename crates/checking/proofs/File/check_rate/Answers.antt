-- A rate is refused by 8 exactly where its bytes are not all there, then by 14 where it is 0 and those are not taken, then by 16 where its
-- mark disagrees with its size.
use Rattle.std.proofs.Common.{◌≡◌, false, refl, sym, ◌∙◌, arith}
use Rattle.std.proofs.lemmas.Bool.{true≢false}
use Rattle.file_rules.proofs.Checks.{rate_cut, rate_marked, rate_none}
use Rattle.checking.proofs.File.check_rate.Goals as goal
use Rattle.checking.proofs.File.check_rate.Goals.{then-self-via-then-self, then-self-via-else-self+then-rate-gt0}

pub returns-then-self-place : goal.returns-then-self-place
returns-then-self-place c =
    rate_cut _ _ _ _ _ _ _ (omega (arith, c.width_of-width.ensures.0))

pub returns-then-self : goal.returns-then-self
returns-then-self c =
    rate_marked _ _ _ _ _ _ _ (omega (arith, c.if-self-place.false, c.width_of-width.ensures.0))
    (elim c.then-self.branch [
      | then-self-via-then-self w ↦ λ (z : c.args.self.zeros ≡ false). absurd (true≢false (sym w.if-self.true ∙ z))
      | then-self-via-else-self+then-rate-gt0 w ↦ λ (z : c.args.self.zeros ≡ false). omega (arith, c.rate_at-rate.ensures, w.if-rate-gt0.true)
    ])
    _ (c.check_mark.ensures ∙ rw (c.rate_at-rate.ensures, c.width_of-width.ensures.0))

pub returns : goal.returns
returns c =
    rate_none _ _ _ _ _ _ _ (omega (arith, c.if-self-place.false, c.width_of-width.ensures.0)) c.if-self.false
    (omega (arith, c.rate_at-rate.ensures, c.if-rate-gt0.false)) _ _ refl refl
