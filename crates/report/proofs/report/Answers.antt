-- The text is that of what reading answers. Assumes nothing.
use mathlib.Core.Path.{refl, ap}
use native.Mathlib.Omega.{arith}
use Rattle.chain.specs.Rows.{Rows}
use Rattle.storage.proofs.RoundTrips.{read_few}
use Rattle.report.proofs.Outcomes.{reports, reports_nothing, unread_text, order_low, read_text}
use borrow.Author.Rules.{rules}
use Rattle.report.proofs.report.Goals as goal

pub returns-then-out-lt-LONGEST_TEXT : goal.returns-then-out-lt-LONGEST_TEXT
returns-then-out-lt-LONGEST_TEXT c = reports_nothing (λ i. (c.type_inv.bytes i).fits) c.if-out-lt-LONGEST_TEXT.true

pub chain-requires : goal.chain-requires
chain-requires c =
    let low = order_low c.in-Ok.ensures (search rules) (search rules) (search rules) refl in
    let few = read_few c.in-Ok.ensures refl in
    (search rules, search rules, search rules)

pub put_solved-requires : goal.put_solved-requires
put_solved-requires c =
    let low = order_low c.in-Ok.ensures (search rules) (search rules) (search rules) refl in
    let same = ap (λ (chain : Rows). chain.order) c.chain.ensures in
    (search rules, omega (arith, same, low))

pub returns-in-Ok : goal.returns-in-Ok
returns-in-Ok c =
    reports (λ i. (c.type_inv.bytes i).fits) c.if-out-lt-LONGEST_TEXT.false
    (read_text c.in-Ok.ensures (search rules) (search rules) (search rules) refl c.chain.ensures)
    c.put_solved.ensures

pub returns-in-Err : goal.returns-in-Err
returns-in-Err c =
    reports (λ i. (c.type_inv.bytes i).fits) c.if-out-lt-LONGEST_TEXT.false
    (unread_text c.in-Err.ensures (search rules) (search rules) (search rules) refl)
    (c.put_refusal.ensures.0, omega (arith, c.put_refusal.ensures.1))
