-- The output is that of what the reading with zeros answers. Assumes nothing.
use mathlib.Core.Path.{refl, ap}
use lib.ListN.{length}
use Rattle.std.proofs.lemmas.List.{length-take}
use Rattle.chain.specs.Rows.{Rows}
use native.Mathlib.Omega.{arith}
use borrow.Author.Rules.{rules}
use Rattle.storage.proofs.RoundTrips.{read_few}
use Rattle.cleaning.proofs.Outcomes.{rewrites, rewrites_nothing, unread_output, chain_sound, read_output}
use Rattle.cleaning.proofs.clean.Goals as goal

pub returns-then-out-lt-LONGEST_FILE : goal.returns-then-out-lt-LONGEST_FILE
returns-then-out-lt-LONGEST_FILE c = rewrites_nothing _ (λ i. (c.type_inv.bytes i).fits) (omega (arith, c.if-out-lt-LONGEST_FILE.true))

-- what the reading left
pub chain-chain-requires : goal.chain-chain-requires
chain-chain-requires c =
    let few = read_few c.in-Ok.ensures refl in
    let low = (chain_sound c.in-Ok.ensures (search rules) (search rules) (search rules) refl refl).order.high in
    (omega (arith, low), search rules, search rules)

pub invariant_of-put_cleaned : goal.invariant_of-put_cleaned
invariant_of-put_cleaned c = record { sound = chain_sound c.in-Ok.ensures (search rules) (search rules) (search rules) refl c.chain-chain.ensures }

pub put_cleaned-requires : goal.put_cleaned-requires
put_cleaned-requires c =
    let few = read_few c.in-Ok.ensures refl in
    let same = ap (λ (chain : Rows). length chain.columns) c.chain-chain.ensures in
    (omega (arith, c.if-out-lt-LONGEST_FILE.false), omega (arith, same, few, length-take c.in-Ok.reading.entries c.read_with_zeros.new.columns))

pub returns-in-Ok : goal.returns-in-Ok
returns-in-Ok c =
    rewrites _ (λ i. (c.type_inv.bytes i).fits) (omega (arith, c.if-out-lt-LONGEST_FILE.false))
    (read_output c.in-Ok.ensures (search rules) (search rules) (search rules) refl c.chain-chain.ensures)
    c.put_cleaned.ensures.0 c.put_cleaned.ensures.1

pub returns-in-Err : goal.returns-in-Err
returns-in-Err c =
    rewrites _ (λ i. (c.type_inv.bytes i).fits) (omega (arith, c.if-out-lt-LONGEST_FILE.false))
    (unread_output c.in-Err.ensures (search rules) (search rules) (search rules) refl)
    c.put_refusal.ensures.0 (omega (arith, c.put_refusal.ensures.1))
