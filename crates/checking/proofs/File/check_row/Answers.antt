-- Map cut short, map bit, second map, rates: in that order.
use Prim.Native.Nat.{◌*◌, ◌<◌}
use mathlib.Core.Path.{◌≡◌, sym, ◌∙◌, refl}
use native.Mathlib.Omega.{arith}
use Rattle.std.proofs.lemmas.Result.{err_from_is_err_and}
use Rattle.basics.proofs.FoundLaws.{found_some, found_none}
use Rattle.refusal.specs.Table.{verdict, refusal}
use Rattle.layout.specs.Bytes.{map_bytes}
use Rattle.file_rules.specs.Verdict.{first_bad_bit}
use Rattle.file_rules.proofs.Checks.{row_no_map, row_bad_bit, row_marks, row_rates_lem, marks_are}
use Rattle.checking.proofs.File.check_row.Goals as goal

pub returns-then-self-map : goal.returns-then-self-map
returns-then-self-map c = row_no_map _ _ _ _ _ _ (omega arith)

pub returns-in-Some : goal.returns-in-Some
returns-in-Some c =
    let k : (c.in-Some.bit ≡ first_bad_bit c.args.self.bytes.now c.args.self.order c.args.row c.args.map) × (c.in-Some.bit < 8 * map_bytes c.args.self.order) =
    found_some _ _ _ _ (sym c.first_bad_bit.ensures ∙ c.in-Some.is) in
    row_bad_bit _ _ _ _ _ _ (omega arith) _ k.0 k.1

pub returns-in_err-check_marks : goal.returns-in_err-check_marks
returns-in_err-check_marks c =
    let p = err_from_is_err_and c.from_residual.result c.from_residual.ensures.1 in
    let e : verdict c.from_residual.result ≡ refusal c.in_err-check_marks.field-0.0 = rw (p.1, p.2) in
    let none : first_bad_bit c.args.self.bytes.now c.args.self.order c.args.row c.args.map ≡ 8 * map_bytes c.args.self.order =
    found_none _ _ _ (omega arith) (sym c.first_bad_bit.ensures ∙ c.in_default.is) in
    e ∙ row_marks _ _ _ _ _ _ (omega (arith, c.if-self-map.false)) _ refl (omega (arith, none)) _ _ (sym c.in_err-check_marks.ensures)

pub check_rates-requires : goal.check_rates-requires
check_rates-requires c =
    let m = marks_are _ _ _ _ _ _ (sym c.in_ok-check_marks.ensures) in
    m.whole (omega (arith, c.if-self-map.false))

pub returns : goal.returns
returns c =
    let none : first_bad_bit c.args.self.bytes.now c.args.self.order c.args.row c.args.map ≡ 8 * map_bytes c.args.self.order =
    found_none _ _ _ (omega arith) (sym c.first_bad_bit.ensures ∙ c.in_default.is) in
    row_rates_lem _ _ _ _ _ _ (omega (arith, c.if-self-map.false)) _ refl (omega (arith, none)) _ (sym c.in_ok-check_marks.ensures)
    _ c.check_rates.ensures
