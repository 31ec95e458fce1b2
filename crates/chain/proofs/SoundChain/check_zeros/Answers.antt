use Rattle.chain.specs.Rows.{rows_of}
use Rattle.chain.proofs.ZeroLaws.{zeros_place, zeros_found, zeros_none}
use Rattle.chain.proofs.SoundChain.check_zeros.Goals as goal

pub returns-in_default : goal.returns-in_default
returns-in_default c = zeros_none _ c.first_zero.ensures c.in_default.is

pub row_of-row-requires : goal.row_of-row-requires
row_of-row-requires c = zeros_place (rows_of c.args.self.chain) c.in-Some.place c.first_zero.ensures c.in-Some.is

pub returns : goal.returns
returns c =
    zeros_found (rows_of c.args.self.chain) c.args.self.sound c.in-Some.place _ c.first_zero.ensures c.in-Some.is c.row_of-row.ensures
