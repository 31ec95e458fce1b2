-- What C is told, by evaluation: every number, and in which place it stands. An answer slice of 7s tells what is kept. Assumes nothing.
use mathlib.Core.List.{List, [], ◌∷◌}
use mathlib.Core.Path.{◌≡◌, refl}
use Prim.Native.Nat.{ℕ}
use Rattle.refusal.specs.Table.{of_chain, of_bytes, accepts, refuses, numbered}
use Rattle.layout.specs.declared.Form.TheVariants.{One, Two}
use Rattle.joined.specs.Verdict.{of_first, of_second, of_joint}
use Rattle.telling.specs.Answer.{side_number, part_number, handed, CountTold, ReadingTold, JoiningTold}

-- capi/stall.h: STALL_CHAIN, STALL_BYTES; STALL_JOINT, STALL_FIRST, STALL_SECOND
pub numbers_of_sides : (side_number of_chain ≡ 0) × (side_number of_bytes ≡ 1)
numbers_of_sides = (refl, refl)

pub numbers_of_parts : (part_number of_joint ≡ 0) × (part_number of_first ≡ 1) × (part_number of_second ≡ 2)
numbers_of_parts = (refl, refl, refl)

abbrev sevens : List ℕ
sevens = 7 ∷ 7 ∷ 7 ∷ 7 ∷ 7 ∷ []

module _ {r : ℕ} {answer' : List ℕ} where
  -- a count; and a refusal of the chain: its number, its two places, the side
  pub count_told : CountTold (accepts 64) sevens r answer' → (r ≡ 0) × (answer' ≡ 64 ∷ 0 ∷ 0 ∷ 7 ∷ 7 ∷ [])
  unfolding handed
  count_told t = (t.returned, t.answer_is)

  pub chain_refused : CountTold (refuses of_chain (numbered 14 3 8)) sevens r answer' → (r ≡ 14) × (answer' ≡ 3 ∷ 8 ∷ 0 ∷ 7 ∷ 7 ∷ [])
  unfolding handed
  chain_refused t = (t.returned, t.answer_is)

  -- a reading: the order, then the number of entries, then the number of the form; and a refusal of the bytes
  pub reading_told : ReadingTold (accepts (9, 10, One)) sevens r answer' → (r ≡ 0) × (answer' ≡ 9 ∷ 10 ∷ 1 ∷ 7 ∷ 7 ∷ [])
  unfolding handed
  reading_told t = (t.returned, t.answer_is)

  pub short_told : ReadingTold (accepts (9, 10, Two)) sevens r answer' → (r ≡ 0) × (answer' ≡ 9 ∷ 10 ∷ 2 ∷ 7 ∷ 7 ∷ [])
  unfolding handed
  short_told t = (t.returned, t.answer_is)

  pub bytes_refused_lem : ReadingTold (refuses of_bytes (numbered 14 3 8)) sevens r answer' → (r ≡ 14) × (answer' ≡ 3 ∷ 8 ∷ 1 ∷ 7 ∷ 7 ∷ [])
  unfolding handed
  bytes_refused_lem t = (t.returned, t.answer_is)

  -- a joining: the number of entries; and a refusal of each part, and of the joint chain
  pub joining_told : JoiningTold (of_joint, accepts 18) sevens r answer' → (r ≡ 0) × (answer' ≡ 18 ∷ 0 ∷ 0 ∷ 0 ∷ 7 ∷ [])
  unfolding handed
  joining_told t = (t.returned, t.answer_is)

  pub first_refused : JoiningTold (of_first, refuses of_chain (numbered 14 3 8)) sevens r answer' → (r ≡ 14) × (answer' ≡ 3 ∷ 8 ∷ 0 ∷ 1 ∷ 7 ∷ [])
  unfolding handed
  first_refused t = (t.returned, t.answer_is)

  pub second_refused : JoiningTold (of_second, refuses of_chain (numbered 4 3 8)) sevens r answer' → (r ≡ 4) × (answer' ≡ 3 ∷ 8 ∷ 0 ∷ 2 ∷ 7 ∷ [])
  unfolding handed
  second_refused t = (t.returned, t.answer_is)

  pub joint_refused : JoiningTold (of_joint, refuses of_chain (numbered 15 0 0)) sevens r answer' → (r ≡ 15) × (answer' ≡ 0 ∷ 0 ∷ 0 ∷ 0 ∷ 7 ∷ [])
  unfolding handed
  joint_refused t = (t.returned, t.answer_is)

  -- three places are one too few for a joining, and two for the others: the slice keeps all it held
  pub short_kept : JoiningTold (of_joint, accepts 18) (7 ∷ 7 ∷ 7 ∷ []) r answer' → answer' ≡ 7 ∷ 7 ∷ 7 ∷ []
  unfolding handed
  short_kept t = t.answer_is

  pub shorter_kept : CountTold (accepts 64) (7 ∷ 7 ∷ []) r answer' → answer' ≡ 7 ∷ 7 ∷ []
  unfolding handed
  shorter_kept t = t.answer_is
