use Prim.Native.Nat.{◌+◌}
use native.Mathlib.Omega.{arith}
use Rattle.chain.specs.Rows.{rows_of}
use Rattle.chain.proofs.SoundLaws.{start_within}
use Rattle.chain.proofs.RateLaws.{look_up_none, look_up_some}
use Rattle.chain.proofs.SoundChain.rate_of.Goals as goal

pub place_of-requires : goal.place_of-requires
place_of-requires c =
    let s = c.args.self.sound in
    (s.starts_rule.rises _ c.requires, start_within s.starts_rule _ (omega (arith, c.requires)))

pub bounds-self-place : goal.bounds-self-place
bounds-self-place c =
    let s = c.args.self.sound in
    let l = (look_up_some (rows_of c.args.self.chain) _ _ c.in-Some.place s c.requires c.place_of.ensures c.in-Some.is).0 in
    omega (arith, l, start_within s.starts_rule (c.args.i + 1) (omega (arith, c.requires)), s.lengths)

pub returns-in-Some : goal.returns-in-Some
returns-in-Some c = (look_up_some (rows_of c.args.self.chain) _ _ c.in-Some.place c.args.self.sound c.requires c.place_of.ensures c.in-Some.is).1

pub returns-in-None : goal.returns-in-None
returns-in-None c = look_up_none (rows_of c.args.self.chain) _ _ (c.args.self.sound.starts_rule.rises _ c.requires) c.place_of.ensures c.in-None.is
