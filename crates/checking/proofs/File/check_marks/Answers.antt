-- Nothing in form 1; in form 2 second map cut short, a bit without its rate, in that order.
use Prim.Native.Nat.{ℕ, ◌+◌, ◌*◌, ◌<◌}
use Rattle.std.proofs.Common.{◌≡◌, sym, ap, ◌∙◌, refl, arith}
use Rattle.refusal.specs.Table.{accepts}
use Rattle.basics.proofs.FoundLaws.{found_some, found_none}
use Rattle.layout.specs.declared.Form.{Form}
use Rattle.layout.specs.Bytes.{map_bytes, maps_of}
use Rattle.file_rules.specs.Verdict.{first_loose_bit}
use Rattle.file_rules.proofs.Checks.{marks_absent, marks_cut, marks_loose, marks_tied}
use Rattle.checking.proofs.File.check_marks.Goals as goal

-- the bytes of the maps of a row, by the form
maps_are : {form f : Form} (n : ℕ) {maps : ℕ} → maps ≡ maps_of form n → form ≡ f → maps ≡ maps_of f n
maps_are n e q = rw q at e

pub returns-then-self-map : goal.returns-then-self-map
returns-then-self-map c =
    let maps = maps_are c.args.self.order c.maps_of-maps.ensures.0 c.in-Two.is in
    marks_cut _ _ _ _ _ c.in-Two.is (omega arith)

pub returns-in-Some : goal.returns-in-Some
returns-in-Some c =
    let maps = maps_are c.args.self.order c.maps_of-maps.ensures.0 c.in-Two.is in
    let k : (c.in-Some.bit ≡ first_loose_bit c.args.self.bytes.now c.args.self.order c.args.map) × (c.in-Some.bit < 8 * map_bytes c.args.self.order) =
    found_some _ _ _ _ (sym c.first_loose_bit.ensures ∙ c.in-Some.is) in
    marks_loose _ _ _ _ _ c.in-Two.is (omega arith) _ k.0 k.1 _ refl

pub returns-in-One : goal.returns-in-One
returns-in-One c =
    let maps = maps_are c.args.self.order c.maps_of-maps.ensures.0 c.in-One.is in
    ap (λ (k : ℕ). accepts (c.args.map + k)) maps ∙ marks_absent _ _ _ _ _ c.in-One.is

pub returns-in_default : goal.returns-in_default
returns-in_default c =
    let maps = maps_are c.args.self.order c.maps_of-maps.ensures.0 c.in-Two.is in
    let none : first_loose_bit c.args.self.bytes.now c.args.self.order c.args.map ≡ 8 * map_bytes c.args.self.order =
    found_none _ _ _ (omega arith) (sym c.first_loose_bit.ensures ∙ c.in_default.is) in
    ap (λ (k : ℕ). accepts (c.args.map + k)) maps ∙ marks_tied _ _ _ _ _ c.in-Two.is (omega arith) _ refl (omega arith)
