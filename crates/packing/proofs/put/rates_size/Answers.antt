use Prim.Native.Nat.{◌≤◌, ◌^◌}
use Rattle.std.proofs.Common.{rules, ◌≡◌, ◌∙◌, length, arith}
use Rattle.std.specs.List.{sum_by}
use Rattle.std.proofs.iter.runs.Made.{chains}
use Rattle.std.proofs.lemmas.Iterator.{YieldsList-from_slice}
use Rattle.std.proofs.lemmas.Iterator.Adapters.{fits_from_length, at_most_from_yields_List}
use Rattle.layout.specs.Forms.{short, width}
use Rattle.packing.proofs.MapLaws.{size_sum}
use Rattle.packing.proofs.put.rates_size.Goals as goal

-- a slice has less than 2 ^ 61 rates, and each takes at most 4 bytes
pub sum-requires-clause-fits : goal.sum-requires-clause-fits
sum-requires-clause-fits c =
    let few : length c.args.rates.now ≤ 2 ^ 61 = omega arith in
    fits_from_length _ _ (2 ^ 61) (2 ^ 64) (at_most_from_yields_List (YieldsList-from_slice c.args.rates.now cc) few) c.map.ensures.closure (omega arith) (λ x r q k. search rules)

pub returns : goal.returns
returns c =
    let e : c.sum.result ≡ sum_by (λ rate. width (short c.args.form rate)) c.args.rates.now = search (rules, chains) in e ∙ size_sum _ _
