-- A store changes one place alone. Assumes nothing.
use Rattle.std.proofs.Common.{refl, arith}
use Rattle.kernel.proofs.Places.{placed_is}
use Rattle.kernel.proofs.Numbers.place.Goals as goal

pub returns : goal.returns
returns c =
    let s = c.args.self.now in
    record { lent_m = refl; lent_e = refl; holds = rw (c.store.ensures.0, c.store.ensures.1) (placed_is _ _ _ c.requires (omega (arith, s.paired))) }
