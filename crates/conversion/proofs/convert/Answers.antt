-- The output is that of what the reading answers. Assumes nothing.
use mathlib.Core.Path.{refl}
use native.Mathlib.Omega.{arith}
use borrow.Author.Rules.{rules}
use Rattle.storage.proofs.RoundTrips.{read_few}
use Rattle.conversion.proofs.Outcomes.{converts, converts_nothing, unread_output, chain_accepted, read_output}
use Rattle.conversion.proofs.convert.Goals as goal

pub returns-then-out-lt-LONGEST_FILE : goal.returns-then-out-lt-LONGEST_FILE
returns-then-out-lt-LONGEST_FILE c = converts_nothing _ (λ i. (c.type_inv.bytes i).fits) (omega (arith, c.if-out-lt-LONGEST_FILE.true))

-- what the reading left
pub chain-chain-requires : goal.chain-chain-requires
chain-chain-requires c =
    let few = read_few c.in-Ok.ensures refl in
    let low = (chain_accepted c.in-Ok.ensures (search rules) (search rules) (search rules) refl refl).sound.order.high in
    (omega (arith, low), search rules, search rules)

pub put_file-requires : goal.put_file-requires
put_file-requires c =
    (omega (arith, c.if-out-lt-LONGEST_FILE.false), chain_accepted c.in-Ok.ensures (search rules) (search rules) (search rules) refl c.chain-chain.ensures)

pub returns-in-Ok : goal.returns-in-Ok
returns-in-Ok c =
    converts _ (λ i. (c.type_inv.bytes i).fits) (omega (arith, c.if-out-lt-LONGEST_FILE.false))
    (read_output c.in-Ok.ensures (search rules) (search rules) (search rules) refl c.chain-chain.ensures _ c.other_form.ensures)
    c.put_file.ensures.0 c.put_file.ensures.1

pub returns-in-Err : goal.returns-in-Err
returns-in-Err c =
    converts _ (λ i. (c.type_inv.bytes i).fits) (omega (arith, c.if-out-lt-LONGEST_FILE.false))
    (unread_output c.in-Err.ensures (search rules) (search rules) (search rules) refl)
    c.put_refusal.ensures.0 (omega (arith, c.put_refusal.ensures.1))
