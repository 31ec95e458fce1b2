-- The check's refusals passed on, then 5, then the file.
use Rattle.std.proofs.Common.{sym, arith}
use Rattle.std.proofs.lemmas.Result.{err_from_is_err_and}
use Rattle.chain.proofs.Reading.{accepted_sound}
use Rattle.storage.proofs.Calls.{write_stop, write_no_room, write_whole, size_is, maps_product}
use Rattle.layout.proofs.Rates.{size_high}
use Rattle.storage.proofs.write.Goals as goal

pub returns-in_err-check : goal.returns-in_err-check
returns-in_err-check c =
    let p = err_from_is_err_and c.from_residual.result c.from_residual.ensures.1 in
    rw (p.1, p.2) (write_stop _ _ _ c.in_err-check.ensures.computed)

pub overflow_add-size-2 : goal.overflow_add-size-2
overflow_add-size-2 c =
    let m = maps_product _ _ (accepted_sound _ (sym c.in_ok-check.ensures.computed)).order.high c.maps_of.ensures.1 in
    let r = size_high c.args.form c.args.chain.rates.now in
    omega (arith, m, r, c.rates_size.ensures, c.well_formed)

pub returns-then-out-size : goal.returns-then-out-size
returns-then-out-size c =
    let z = size_is c.args.form c.args.chain.order c.maps_of.result c.rates_size.result c.args.chain.rates.now c.maps_of.ensures.0 c.rates_size.ensures in
    write_no_room _ _ _ _ (sym c.in_ok-check.ensures.computed) (omega (arith, c.if-out-size.true, z))

pub returns : goal.returns
returns c =
    let z = size_is c.args.form c.args.chain.order c.maps_of.result c.rates_size.result c.args.chain.rates.now c.maps_of.ensures.0 c.rates_size.ensures in
    write_whole _ _ _ _ (sym c.in_ok-check.ensures.computed) c.args.chain.rates_fit (omega (arith, c.if-out-size.false, z)) _ c.put_chain.ensures _ z
