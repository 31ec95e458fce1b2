-- The two bytes before a file, low byte first.
use Rattle.std.proofs.Common.{arith, get_or}
use Rattle.std.proofs.lemmas.Grind.{common_steps}
use Rattle.framed.proofs.fetch.Goals as goal

pub returns-clause-bytes : goal.returns-clause-bytes
returns-clause-bytes g c =
    let head = c.read_full.new.buf in
    (get_or head 0 0, get_or head 1 0, omega arith, grind (arith, common_steps))
