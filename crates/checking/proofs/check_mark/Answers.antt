-- 16 exactly where a mark disagrees with its rate's size.
use mathlib.Core.Bool.{true≢false}
use mathlib.Core.Path.{refl, sym, ◌∙◌}
use Rattle.std.specs.Cmp.{booleans_Decides}
use Rattle.file_rules.proofs.Checks.{mark_right, mark_wrong}
use Rattle.checking.proofs.check_mark.Goals as goal

pub returns-then-mark-is_short : goal.returns-then-mark-is_short
returns-then-mark-is_short c =
    mark_right _ _ _ _ _ _ ((booleans_Decides c.args.mark c.is_short.result).0 c.if-mark-is_short.true ∙ c.is_short.ensures)

pub returns : goal.returns
returns c =
    mark_wrong _ _ _ _ _ _
    (λ q. true≢false (sym ((booleans_Decides c.args.mark c.is_short.result).1 (q ∙ sym c.is_short.ensures)) ∙ c.if-mark-is_short.false)) _ _ refl refl
