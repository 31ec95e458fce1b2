-- The first places are lent to `kernel::clear`. Assumes nothing.
use lib.Seq.{length-take-le}
use Rattle.elimination.proofs.clear_first.Goals as goal

pub returns : goal.returns
returns c =
    record {
      zeros_m = rw (c.clear.ensures.0, length-take-le _ _ c.requires.0);
      zeros_e = rw (c.clear.ensures.1, length-take-le _ _ c.requires.1);
    }
