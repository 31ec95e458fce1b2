-- `bit_at`: the shift and the remainder of the code are the bit of the definition. Assumes nothing.
use mathlib.Core.Path.{refl}
use Rattle.layout.specs.Bytes.{bit_at}
use Rattle.layout.proofs.bit_at.Goals as goal

pub returns : goal.returns
unfolding bit_at
returns c = refl
