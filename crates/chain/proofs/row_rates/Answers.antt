use Prim.Native.Nat.{ℕ, ◌+◌}
use mathlib.Core.List.{List}
use mathlib.Core.Path.{◌≡◌, ap}
use native.Mathlib.Omega.{arith}
use denote.Ref.{Bor}
use lib.ListN.{take, drop}
use Rattle.chain.specs.Row.{Part, stands_at}
use Rattle.chain.proofs.SoundLaws.{start_within}
use Rattle.chain.proofs.RowLaws.{part_refused, part_beyond, part_inside, done_sound}
use Rattle.chain.proofs.row_rates.Goals as goal

-- what a part holds and where it stands, from the part itself
held : (slice : Bor (List ℕ)) {p q : Part} → p ≡ q
    → (take p.1 (drop p.0 slice.now) ≡ take q.1 (drop q.0 slice.now)) × (stands_at slice p.0 ≡ stands_at slice q.0)
held slice e = (ap (λ (p : Part). take p.1 (drop p.0 slice.now)) e, ap (λ (p : Part). stands_at slice p.0) e)

pub returns-in_default : goal.returns-in_default
returns-in_default c =
    let h = held c.args.rates (part_refused _ _ _ c.check.ensures.computed _ c.in_default.is) in
    record { content = h.0; own = h.1 }

pub returns-then-n-row : goal.returns-then-n-row
returns-then-n-row c =
    let h = held c.args.rates (part_beyond _ _ _ c.check.ensures.computed _ c.in-Ok.is c.if-n-row.true) in
    record { content = h.0; own = h.1 }

pub slice_bounds-result-end-2 : goal.slice_bounds-result-end-2
slice_bounds-result-end-2 c =
    let s = done_sound _ c.args.row _ c.check.ensures.computed c.in-Ok.is in
    omega (arith, start_within s.starts_rule (c.args.row + 1) (omega (arith, c.if-n-row.false)), s.lengths)

pub returns : goal.returns
returns c =
    let h = held c.args.rates (part_inside _ _ _ c.check.ensures.computed _ c.in-Ok.is c.if-n-row.false) in
    record { content = h.0; own = h.1 }
