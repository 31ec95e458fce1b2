-- `clean_chain`: the starts, the rates, the columns. Assumes nothing.
use Rattle.cleaned.proofs.Slices.{asks, done}
use Rattle.cleaned.proofs.clean_chain.Goals as goal

pub put_starts-requires : goal.put_starts-requires
put_starts-requires c = asks c.args.sound.sound c.requires

pub returns : goal.returns
returns c = done c.put_starts.ensures c.put_kept.ensures c.put_kept-2.ensures
