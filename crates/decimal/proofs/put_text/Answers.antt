-- The text stands in place of the part that it covers. Assumes nothing.
use Prim.Native.Nat.{ℕ, ◌+◌, ◌-◌, ◌≤◌}
use mathlib.Core.List.{List, append_assoc}
use mathlib.Core.Path.{◌≡◌, refl}
use native.Mathlib.Omega.{arith}
use lib.ListN.{length}
use lib.Seq.{sets, sets-eq}
use borrow.Rule.Slice.PartMut.{put_mid}
use Rattle.std.proofs.lemmas.List.{drop-drop}
use Rattle.decimal.proofs.put_text.Goals as goal

covered : (o s part : List ℕ) (at : ℕ) → part ≡ s → at + length s ≤ length o → put_mid at (at + length s - at) o part ≡ sets o at s
covered o s part at e h =
    let k : at + length s - at ≡ length s = omega arith in
    rw (e, k, drop-drop, sets-eq s o at h, append_assoc) refl

pub returns : goal.returns
returns c = record {
  out_is = covered c.args.out.now c.args.text.now c.copy_from_slice.new.self c.args.at c.copy_from_slice.ensures.after c.requires;
  next_is = refl;
}
