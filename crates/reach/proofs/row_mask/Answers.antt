use native.Mathlib.Omega.{arith}
use mathlib.Core.Path.{◌≡◌}
use Rattle.reach.proofs.StepLaws.{row_none, row_more}
use borrow.Author.Rules.{rules}
use Rattle.reach.proofs.row_mask.Goals as goal

pub loop-place-init : goal.loop-place-init
loop-place-init c = (search rules, search rules, row_none _ _ _ _ _ c.set_bit-mask.ensures)

pub with_entry-mask-requires : goal.with_entry-mask-requires
with_entry-mask-requires c = c.requires.columns_low _ (search rules) (search rules)

pub loop-place-preserved : goal.loop-place-preserved
loop-place-preserved c = (
  search rules,
  search rules,
  row_more _ _ _ _ _ (search rules) c.loop-place.invariant.2 c.with_entry-mask.ensures,
)

pub returns : goal.returns
returns c = let e : c.loop-place.place ≡ c.args.end = omega arith in (rw e at c.loop-place.invariant.2).bit
