-- A word of 63 or 64 bits is brought to the top; then its lower half is judged. Assumes nothing.
use Rattle.std.proofs.Common.{◌≡◌, ℕ, ◌*◌, ◌^◌, ◌≤◌, ◌<◌, ap₂, ◌∙◌, ⊎_elim, arith}
use native.Mathlib.Nat.{mod-eq_of_lt}
use lib.IntN.{ℤ}
use Rattle.scaled.specs.Scaled.{to_nearest}
use Rattle.scaled.proofs.Signed32.{order, stored, moved_up}
use Rattle.scaled.proofs.Words.{nearest_word, up_down}
use Rattle.scaled.proofs.nearest_product.Goals as goal

lifted : (t z : ℕ) → 4611686018427387904 ≤ t → t < 18446744073709551616 → (t < 9223372036854775808 → z ≡ 1) → (9223372036854775808 ≤ t → z ≡ 0)
    → (z < 2) × (9223372036854775808 ≤ t * 2 ^ z) × (t * 2 ^ z < 18446744073709551616)
lifted t z lo hi one none = ⊎_elim (λ l. rw (none l) (omega arith, omega arith, omega arith)) (λ l. rw (one l) (omega arith, omega arith, omega arith)) (order 9223372036854775808 t)

pub returns-clause-result_value : goal.returns-clause-result_value
returns-clause-result_value c =
    let t = c.args.t in
    let e = c.args.e in
    let z = c.zeros_above-z.result in
    let m = lifted t z c.requires.0 (omega arith) c.zeros_above-z.ensures.0 c.zeros_above-z.ensures.1 in
    c.judged.ensures.result_value
    ∙ ap₂ (λ (x : ℕ) (z : ℤ). to_nearest 31 x 4294967296 z) (mod-eq_of_lt m.2)
    ((stored (moved_up e c.requires.1 z (omega (arith, m.0))) (omega arith)).is ∙ up_down e 32 z)
    ∙ nearest_word 31 t z e m.1 m.2
