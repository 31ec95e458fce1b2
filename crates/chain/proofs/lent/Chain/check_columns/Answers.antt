use Prim.Native.Nat.{◌<◌}
use mathlib.Core.Path.{◌≡◌, refl, ◌∙◌, sym}
use native.Mathlib.Omega.{arith}
use borrow.Author.Tests.{lt-ltb, le-ltb}
use Rattle.basics.proofs.FirstLaws.{first_end, first_here, first_next}
use Rattle.basics.proofs.FoundLaws.{found_some, found_none}
use Rattle.chain.specs.Rows.{rows_of, ends}
use Rattle.chain.specs.Rules.{first_bad}
use Rattle.chain.proofs.SoundLaws.{starts_true, start_within}
use Rattle.chain.proofs.RulesLaws.{columns_bad, columns_sound}
use Rattle.chain.proofs.lent.Chain.check_columns.Goals as goal

pub loop-row-init : goal.loop-row-init
loop-row-init c = (starts_true (rows_of c.args.self) c.requires.1, refl)

pub first_bad-requires : goal.first_bad-requires
first_bad-requires c =
    let p = c.loop-row.invariant.0 in
    (p.rises _ c.loop-row-test.true, start_within p _ (omega arith))

pub returns-in-Some : goal.returns-in-Some
returns-in-Some c =
    let k : (c.in-Some.place ≡ first_bad (rows_of c.args.self) c.loop-row.row) × (c.in-Some.place < ends (rows_of c.args.self) c.loop-row.row) =
    found_some _ _ _ _ (sym c.first_bad.ensures ∙ c.in-Some.is) in
    columns_bad (rows_of c.args.self) _ _ c.loop-row-test.true
    (sym (c.loop-row.invariant.1 ∙ first_here _ _ _ c.loop-row-test.true (lt-ltb _ _ (rw k.0 at k.1)))) k.0

pub loop-row-preserved : goal.loop-row-preserved
loop-row-preserved c =
    let h = c.loop-row.invariant in
    let e = found_none _ _ _ (h.0.rises _ c.loop-row-test.true) (sym c.first_bad.ensures ∙ c.in_default.is) in
    (h.0, h.1 ∙ first_next _ _ _ c.loop-row-test.true (le-ltb _ _ (omega (arith, e))))

pub returns : goal.returns
returns c =
    columns_sound (rows_of c.args.self) c.loop-row.row c.loop-row-test.false (c.loop-row.invariant.1 ∙ first_end _ _ _ c.loop-row-test.false)
