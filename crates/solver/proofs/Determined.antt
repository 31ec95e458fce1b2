-- The contract of `solve` leaves one verdict and one content of every lent place: a program that gives anything else breaks it. Assumes
-- nothing.
use mathlib.Core.Path.{◌≡◌, sym, ◌∙◌}
use Rattle.std.specs.Prelude.{ℕ, Result}
use Rattle.refusal.specs.declared.Refusal.{Refusal}
use Rattle.refusal.specs.Table.{verdict}
use Rattle.chain.specs.Rows.{Rows}
use Rattle.solver.specs.Lent.{Lent}
use Rattle.solver.specs.Solve.{Solved}

pub determined : {c : Rows} {old : Lent} {r r₂ : Result ℕ Refusal} {new new₂ : Lent} → Solved c old r new → Solved c old r₂ new₂
    → (verdict r ≡ verdict r₂) × (new ≡ new₂)
determined {r = r} {r₂ = r₂} {new = new} {new₂ = new₂} a b =
    let v : verdict r ≡ verdict r₂ = a.answer ∙ sym b.answer in
    let work : new.work ≡ new₂.work = rw v at a.work ∙ sym b.work in
    let weights : new.weights ≡ new₂.weights = rw v at a.weights ∙ sym b.weights in
    let shares : new.shares ≡ new₂.shares = rw v at a.shares ∙ sym b.shares in
    (v, λ i. record { work = work i; weights = weights i; shares = shares i })
