-- A row's test fails if and only if the row is sound; a bad row has a fault. Assumes nothing.
use Prim.Native.Nat.{ℕ, ◌+◌, ◌*◌, ◌<◌, ◌≤◌}
use mathlib.Core.Bool.{Bool, true, false, ◌||◌}
use mathlib.Core.List.{List}
use mathlib.Core.Logic.{⊎_elim}
use mathlib.Core.Path.{◌≡◌, ◌∙◌}
use native.Mathlib.Omega.{arith}
use lib.Dec.{ltb, leb}
use lib.ListN.{length}
use borrow.Author.Tests.{lt-ltb, le-ltb, le-leb, lt-leb, ltb-true, ltb-false, leb-true, leb-false}
use Rattle.basics.proofs.BoolLaws.{or_yes, or_yes_first, or_no, or_decides, neither, either}
use Rattle.group_table.specs.Rules.{first_state, last_state, group_number, row_bad}
use Rattle.group_table.specs.Sound.{SoundRow, Fault, cut_short, first_above_last, first_too_high, last_too_high, group_too_high}

module _ (n : ℕ) (table : List ℕ) (row : ℕ) where
  -- the first one, two, three and four tests
  abbrev up_to1 : Bool
  up_to1 = ltb (length table) (3 * row + 3)

  abbrev up_to2 : Bool
  up_to2 = up_to1 || ltb (last_state table row) (first_state table row)

  abbrev up_to3 : Bool
  up_to3 = up_to2 || leb n (first_state table row)

  abbrev up_to4 : Bool
  up_to4 = up_to3 || leb n (last_state table row)

  pub fault_bad : Fault n table row → row_bad n table row ≡ true
  unfolding row_bad
  fault_bad (cut_short h) = or_yes_first up_to4 _ (or_yes_first up_to3 _ (or_yes_first up_to2 _ (or_yes_first up_to1 _ (lt-ltb _ _ h))))
  fault_bad (first_above_last h) = or_yes_first up_to4 _ (or_yes_first up_to3 _ (or_yes_first up_to2 _ (or_yes up_to1 _ (lt-ltb _ _ h))))
  fault_bad (first_too_high h) = or_yes_first up_to4 _ (or_yes_first up_to3 _ (or_yes up_to2 _ (le-leb _ _ h)))
  fault_bad (last_too_high h) = or_yes_first up_to4 _ (or_yes up_to3 _ (le-leb _ _ h))
  fault_bad (group_too_high h) = or_yes up_to4 _ (lt-ltb _ _ h)

  pub bad_fault : row_bad n table row ≡ true → Fault n table row
  unfolding row_bad
  bad_fault t =
      ⊎_elim
      (λ t. ⊎_elim
      (λ t. ⊎_elim
      (λ t. ⊎_elim (λ t. cut_short (ltb-true _ _ t)) (λ t. first_above_last (ltb-true _ _ t)) (either up_to1 _ t))
      (λ t. first_too_high (leb-true _ _ t))
      (either up_to2 _ t))
      (λ t. last_too_high (leb-true _ _ t))
      (either up_to3 _ t))
      (λ t. group_too_high (ltb-true _ _ t))
      (either up_to4 _ t)

  pub good_sound : row_bad n table row ≡ false → SoundRow n table row
  unfolding row_bad
  good_sound t =
      let d = neither up_to4 _ t in
      let c = neither up_to3 _ d.0 in
      let b = neither up_to2 _ c.0 in
      let a = neither up_to1 _ b.0 in
      record {
        whole = ltb-false _ _ a.0;
        ordered = ltb-false _ _ a.1;
        first_below = leb-false _ _ b.1;
        last_below = leb-false _ _ c.1;
        group = ltb-false _ _ d.1;
      }

  -- the last test decides, where the code's other tests fail
  pub group_decides : 3 * row + 3 ≤ length table → first_state table row ≤ last_state table row → last_state table row < n
      → row_bad n table row ≡ ltb 15 (group_number table row)
  unfolding row_bad
  group_decides w o l =
      let f : first_state table row < n = omega arith in
      or_decides up_to4 _ (or_no up_to3 _ (or_no up_to2 _ (or_no up_to1 _ (le-ltb _ _ w) (le-ltb _ _ o)) (lt-leb _ _ f)) (lt-leb _ _ l))

  pub sound_good : SoundRow n table row → row_bad n table row ≡ false
  sound_good h = group_decides h.whole h.ordered h.last_below ∙ le-ltb _ _ h.group
