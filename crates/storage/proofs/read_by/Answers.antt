-- Nothing is written before the answer is known.
use Rattle.std.proofs.lemmas.Result.{err_from_is_err_and}
use Rattle.storage.proofs.Calls.{read_stop, read_asks, read_whole}
use Rattle.storage.proofs.read_by.Goals as goal

pub returns-in_err-stored : goal.returns-in_err-stored
returns-in_err-stored c =
    let p = err_from_is_err_and c.from_residual.result c.from_residual.ensures.1 in
    rw (p.1, p.2) (read_stop _ _ _ c.in_err-stored.ensures)

pub fill_rows-requires : goal.fill_rows-requires
fill_rows-requires c = read_asks _ _ _ _ c.in_ok-stored.ensures

pub returns : goal.returns
returns c = read_whole _ _ _ _ c.in_ok-stored.ensures (λ i. (c.type_inv.bytes i).fits) _ c.fill_rows.ensures
