-- A map, the second map, then the rates.
use native.Mathlib.Omega.{arith}
use mathlib.Core.Path.{◌∙◌}
use Rattle.packing.proofs.MapLaws.{row_parts, row_put}
use Rattle.packing.proofs.put.Row.put.Goals as goal

pub put_map-marks_at-requires : goal.put_map-marks_at-requires
put_map-marks_at-requires c =
    let s = c.args.self in
    let p = row_parts s.form s.order s.columns.now s.rates.now in
    omega (arith, c.requires, p)

pub put_marks-rates_at-requires : goal.put_marks-rates_at-requires
put_marks-rates_at-requires c =
    let s = c.args.self in
    let p = row_parts s.form s.order s.columns.now s.rates.now in
    omega (arith, c.requires, p, c.put_map-marks_at.ensures.1)

pub put_rates-requires : goal.put_rates-requires
put_rates-requires c =
    let s = c.args.self in
    let p = row_parts s.form s.order s.columns.now s.rates.now in
    omega (arith, c.requires, p, c.put_map-marks_at.ensures.1, c.put_marks-rates_at.ensures.1)

pub returns : goal.returns
returns c =
    let s = c.args.self in
    let p = row_parts s.form s.order s.columns.now s.rates.now in
    let rates = c.put_rates.ensures in
    let marks = c.put_marks-rates_at.ensures in
    let map = c.put_map-marks_at.ensures in
    (rates.0 ∙ rw (marks.1, marks.0, map.1, map.0) (row_put s.form s.order s.columns.now s.rates.now c.args.out.now c.args.m), omega (arith, rates.1, marks.1, map.1, p))
