-- The highest bit is brought to the top of a word of 64 bits; then its lower half is judged. Assumes nothing.
use Rattle.std.proofs.Common.{◌≡◌, ℕ, ◌*◌, ◌%◌, ◌^◌, ap₂, ◌∙◌, arith}
use native.Mathlib.Nat.{mod-eq_of_lt}
use lib.IntN.{ℤ}
use lib.Count.{count_leading_zeros}
use Rattle.scaled.specs.Scaled.{to_nearest}
use Rattle.scaled.proofs.Signed32.{held_small, stored, moved_up}
use Rattle.scaled.proofs.Mantissas.{Shifted, shifted}
use Rattle.scaled.proofs.Words.{nearest_word, up_down}
use Rattle.scaled.proofs.nearest.Goals as goal

pub judged-requires : goal.judged-requires
judged-requires c =
    let t = c.args.t in
    let z = count_leading_zeros 64 t in
    let s : Shifted 63 t z = shifted 63 t c.requires.0 (omega arith) in
    let shl_is : t * 2 ^ z % 18446744073709551616 ≡ t * 2 ^ z = mod-eq_of_lt s.hi in
    (rw shl_is (omega (arith, s.lo)), omega (arith, held_small (stored (moved_up c.args.e c.requires.1 z s.within) (omega arith))))

pub returns : goal.returns
returns c =
    let t = c.args.t in
    let e = c.args.e in
    let z = count_leading_zeros 64 t in
    let s : Shifted 63 t z = shifted 63 t c.requires.0 (omega arith) in
    c.judged.ensures.result_value
    ∙ ap₂ (λ (x : ℕ) (z : ℤ). to_nearest 31 x 4294967296 z) (mod-eq_of_lt s.hi)
    ((stored (moved_up e c.requires.1 z s.within) (omega arith)).is ∙ up_down e 32 z)
    ∙ nearest_word 31 t z e s.lo s.hi
