use Prim.Native.Nat.{ℕ, ◌≤◌}
use mathlib.Core.Path.{◌≡◌, sym, ap, ◌∙◌}
use mathlib.Core.List.{List}
use native.Mathlib.Omega.{arith}
use Rattle.refusal.specs.Table.{accepts}
use Rattle.std.specs.Prelude.{Option, None, leb, eqb, get_or}
use Rattle.basics.specs.First.{found}
use Rattle.basics.proofs.FoundLaws.{found_some, found_none}
use Rattle.group_table.specs.Rules.{row_count, row_bad, first_bad_row, first_in_two}
use Rattle.group_table.proofs.Reading.{rows_sound, check_means, refuse_13, refuse_12, refuse_11, accept}
use Rattle.groups.specs.Inner.{Counted}
use Rattle.groups.proofs.Filling.{counted_none, two_counted, none_counted}
use Rattle.groups.proofs.check_table.Goals as goal

-- past 13: no row is bad
good : (n : ℕ) (table : List ℕ) {r : Option ℕ} → r ≡ found (row_bad n table) 0 (row_count table) → r ≡ None → row_count table ≤ first_bad_row n table
good n table e t = omega (arith, found_none (row_bad n table) 0 (row_count table) (omega arith) (sym e ∙ t))

pub returns-in-Some : goal.returns-in-Some
returns-in-Some c =
    let k = found_some _ _ _ _ (sym c.first_bad_row.ensures ∙ c.in-Some.is) in
    let p = check_means c.args.n c.args.table.now (refuse_13 _ _ k.0 k.1) in
    record { computed = p.0; meaning = p.1 }

pub count_rows-requires : goal.count_rows-requires
count_rows-requires c = record {
  sound_rows = rows_sound _ _ (good _ _ c.first_bad_row.ensures c.in_default.is);
  counted = counted_none _;
  n_bound = c.requires;
}

-- past 12: no state is in two rows
once : {n : ℕ} {table seen : List ℕ} {r : Option ℕ} → n ≤ 64 → Counted table (row_count table) seen
    → r ≡ found (λ s. leb 2 (get_or seen s 0)) 0 n → r ≡ None → n ≤ first_in_two n table
once {n} {table} {seen} l h e t =
    omega (arith, two_counted l h, found_none (λ s. leb 2 (get_or seen s 0)) 0 n (omega arith) (sym e ∙ t))

pub returns-in-Some-first_in_two : goal.returns-in-Some-first_in_two
returns-in-Some-first_in_two c =
    let g = good _ _ c.first_bad_row.ensures c.in_default.is in
    let k = found_some _ _ _ _ (sym c.first_in_two.ensures ∙ c.in-Some-first_in_two.is) in
    let p = check_means c.args.n c.args.table.now (refuse_12 _ _ g (k.0 ∙ two_counted c.requires c.count_rows.ensures) k.1) in
    record { computed = p.0; meaning = p.1 }

pub returns-in-Some-first_in_none : goal.returns-in-Some-first_in_none
returns-in-Some-first_in_none c =
    let g = good _ _ c.first_bad_row.ensures c.in_default.is in
    let all = c.count_rows.ensures in
    let k = found_some _ _ _ _ (sym c.first_in_none.ensures ∙ c.in-Some-first_in_none.is) in
    let p =
    check_means c.args.n c.args.table.now
    (refuse_11 _ _ g (once c.requires all c.first_in_two.ensures c.in_default-first_in_two.is) (k.0 ∙ none_counted c.requires all) k.1) in
    record { computed = p.0; meaning = p.1 }

pub returns : goal.returns
returns c =
    let g = good _ _ c.first_bad_row.ensures c.in_default.is in
    let all = c.count_rows.ensures in
    let none =
    found_none (λ s. eqb (get_or c.count_rows.new.seen s 0) 0) 0 c.args.n (omega arith) (sym c.first_in_none.ensures ∙ c.in_default-first_in_none.is) in
    let p =
    check_means c.args.n c.args.table.now
    (ap accepts c.row_count.ensures
    ∙ accept _ _ g (once c.requires all c.first_in_two.ensures c.in_default-first_in_two.is) (omega (arith, none, none_counted c.requires all))) in
    record { computed = p.0; meaning = p.1 }
