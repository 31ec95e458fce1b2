-- A store at the place of entry (i, j) changes that entry alone. Assumes nothing.
use Rattle.std.proofs.Common.{refl}
use Rattle.kernel.proofs.Entries.{put_is}
use Rattle.kernel.proofs.Matrix.put.Goals as goal

pub returns : goal.returns
returns c =
    let r = c.requires in
    let s = c.args.self.now in
    record {
      same_order = refl;
      lent_m = refl;
      lent_e = refl;
      holds = rw (c.store.ensures.0, c.store.ensures.1, c.cell-place.ensures.0) (put_is _ _ _ _ _ s.size_m s.size_e r.0 r.1);
    }
