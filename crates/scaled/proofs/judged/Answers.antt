-- Below 2^64 - 2^31 the rounded upper half has 32 bits; from there on it is 2^32. Assumes nothing.
use Rattle.std.proofs.Common.{◌≡◌, ℕ, ◌+◌, ◌/◌, ◌%◌, ap, sym, ◌∙◌, arith}
use lib.IntN.{pos}
use Rattle.scaled.specs.Scaled.{ranged, upward, carried}
use Rattle.scaled.proofs.Signed32.{held, stored, plus}
use Rattle.scaled.proofs.Ties.{carried_kept}
use Rattle.scaled.proofs.Words.{judged_is}
use Rattle.scaled.proofs.judged.Goals as goal

-- what is chosen, by the spec
abbrev choice : ℕ → ℕ
choice x = x / 4294967296 + upward (x / 4294967296) (x % 4294967296) 4294967296

pub returns-then-x-lt18446744071562067968-clause-result_value : goal.returns-then-x-lt18446744071562067968-clause-result_value
returns-then-x-lt18446744071562067968-clause-result_value c =
    let r = c.upper_half.ensures in
    let chosen : c.upper_half.result ≡ choice c.args.x =
    judged_is c.args.x 2147483648 c.upper_half.result r.below_half r.half_even r.half_odd r.above_half in
    ap (ranged c.upper_half.result) (stored (held c.args.e c.requires.1) (omega arith)).is
    ∙ sym (carried_kept 31 c.upper_half.result c.args.e r.size.1) ∙ ap (λ (r : ℕ). carried 31 r c.args.e) chosen

pub returns-clause-result_value : goal.returns-clause-result_value
unfolding carried
returns-clause-result_value c =
    let full : 4294967296 ≡ choice c.args.x =
    judged_is c.args.x 2147483648 4294967296 (λ l. omega arith) (λ e z. omega arith) (λ e o. omega arith) (λ l. omega arith) in
    let following = plus (stored (held c.args.e c.requires.1) (omega arith)) (held (pos 1) {n = 2} (omega arith)) in
    rw (sym full) (ap (ranged 2147483648) (stored following (omega arith)).is)
