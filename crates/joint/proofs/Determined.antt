-- The contract of `join` leaves one verdict and one content of every lent place: a program that gives anything else breaks it. Assumes nothing.
use mathlib.Core.Path.{◌≡◌, sym, ◌∙◌}
use Rattle.chain.specs.Rows.{Rows}
use Rattle.layout.specs.Buffers.{Buffers, buffers}
use Rattle.std.specs.Prelude.{ℕ, Result}
use Rattle.joint.specs.declared.JoinRefusal.{JoinRefusal}
use Rattle.joint.specs.Joining.{told_joining, Joins}

pub join_determined : {first second : Rows} {old : Buffers} {r r₂ : Result ℕ JoinRefusal} {new new₂ : Buffers} → Joins first second old r new → Joins first second old r₂ new₂
    → (told_joining r ≡ told_joining r₂) × (new ≡ new₂)
join_determined {r = r} {r₂ = r₂} {new = new} {new₂ = new₂} a b =
    let v : told_joining r ≡ told_joining r₂ = a.answer ∙ sym b.answer in
    let starts : new.starts ≡ new₂.starts = rw v at a.starts_are ∙ sym b.starts_are in
    let columns : new.columns ≡ new₂.columns = rw v at a.columns_are ∙ sym b.columns_are in
    let rates : new.rates ≡ new₂.rates = rw v at a.rates_are ∙ sym b.rates_are in
    (v, λ i. buffers (starts i) (columns i) (rates i))
