-- Nothing is written before the answer is known. Assumes nothing.
use mathlib.Core.Path.{◌≡◌}
use Rattle.std.specs.Prelude.{Err}
use Rattle.std.proofs.lemmas.Result.{err_from_is_err_and}
use Rattle.joint.proofs.WaysOut.{join_stop, join_parts, join_asks, join_whole}
use Rattle.joint.proofs.join.Goals as goal

pub returns-in_err-entries : goal.returns-in_err-entries
returns-in_err-entries c =
    let p = err_from_is_err_and c.from_residual.result c.from_residual.ensures.1 in
    let t : c.from_residual.result ≡ Err c.in_err-entries.field-0.0 = rw (p.1, p.2) in
    rw t (join_stop _ _ _ _ c.in_err-entries.ensures)

pub invariant_of-put_rows : goal.invariant_of-put_rows
invariant_of-put_rows c = record { joinable = join_parts _ _ _ _ c.in_ok-entries.ensures }

pub put_rows-requires : goal.put_rows-requires
put_rows-requires c = join_asks _ _ _ _ c.in_ok-entries.ensures

pub returns : goal.returns
returns c = join_whole _ _ _ _ c.in_ok-entries.ensures _ c.put_rows.ensures
