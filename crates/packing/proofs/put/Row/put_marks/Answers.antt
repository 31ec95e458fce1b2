-- Nothing in form 1, the map of the columns whose rates are short in form 2.
use mathlib.Core.Path.{◌∙◌}
use native.Mathlib.Omega.{arith}
use Rattle.packing.proofs.MapLaws.{marks_width, marks_put}
use Rattle.packing.proofs.put.Row.put_marks.Goals as goal

pub put_map-requires : goal.put_map-requires
put_map-requires c =
    let s = c.args.self in
    let w = marks_width s.form s.order s.columns.now s.rates.now c.args.out.now c.args.m c.in-Two.is in
    omega (arith, c.requires, w)

pub returns-in-Two : goal.returns-in-Two
returns-in-Two c =
    let s = c.args.self in
    let m = marks_put s.form s.order s.columns.now s.rates.now c.args.out.now c.args.m c.in-Two.is _ c.put_map.ensures.0 in
    (m.0, c.put_map.ensures.1 ∙ m.1)
