-- The contract of `solve_groups` leaves one verdict and one content of every lent place: a program that gives anything else breaks it.
-- Assumes nothing.
use mathlib.Core.List.{List}
use mathlib.Core.Path.{◌≡◌, sym, ◌∙◌}
use Prim.Native.Nat.{ℕ}
use Rattle.std.specs.Prelude.{ℕ, Result}
use Rattle.refusal.specs.declared.Refusal.{Refusal}
use Rattle.refusal.specs.Table.{verdict}
use Rattle.chain.specs.Rows.{Rows}
use Rattle.group_shares.specs.GroupShares.{GroupLent, GroupsSolved}

pub determined : {c : Rows} {table : List ℕ} {old : GroupLent} {r r₂ : Result ℕ Refusal} {new new₂ : GroupLent} → GroupsSolved c table old r new
    → GroupsSolved c table old r₂ new₂ → (verdict r ≡ verdict r₂) × (new ≡ new₂)
determined {r = r} {r₂ = r₂} {new = new} {new₂ = new₂} a b =
    let v : verdict r ≡ verdict r₂ = a.answer ∙ sym b.answer in
    let work : new.solving.work ≡ new₂.solving.work = rw v at a.work ∙ sym b.work in
    let weights : new.solving.weights ≡ new₂.solving.weights = rw v at a.weights ∙ sym b.weights in
    let shares : new.solving.shares ≡ new₂.solving.shares = rw v at a.shares ∙ sym b.shares in
    let groups : new.groups ≡ new₂.groups = rw v at a.groups ∙ sym b.groups in
    (v, λ i. record { solving = record { work = work i; weights = weights i; shares = shares i }; groups = groups i })
