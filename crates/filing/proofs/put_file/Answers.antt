-- A chain that every call takes is written: its refusal is never met.
use Rattle.filing.proofs.Filed.{file_put, is_written}
use Rattle.filing.proofs.put_file.Goals as goal

pub unwrap-requires : goal.unwrap-requires
unwrap-requires c = is_written c.write.ensures c.requires.1 c.args.chain.rates_fit c.requires.0

pub returns : goal.returns
returns c = file_put c.write.ensures c.requires.1 c.args.chain.rates_fit c.requires.0 c.unwrap.ensures
