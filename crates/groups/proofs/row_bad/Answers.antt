use mathlib.Core.Path.{sym}
use native.Mathlib.Omega.{arith}
use Rattle.group_table.specs.Sound.{cut_short, first_above_last, last_too_high}
use Rattle.group_table.proofs.RowLaws.{fault_bad, group_decides}
use Rattle.groups.proofs.row_bad.Goals as goal

pub returns-then-table-at-lt3 : goal.returns-then-table-at-lt3
returns-then-table-at-lt3 c = sym (fault_bad _ _ _ (cut_short (omega arith)))

pub returns-then-last-table : goal.returns-then-last-table
returns-then-last-table c = sym (fault_bad _ _ _ (first_above_last (omega arith)))

pub returns-then-n-last : goal.returns-then-n-last
returns-then-n-last c = sym (fault_bad _ _ _ (last_too_high (omega arith)))

pub returns : goal.returns
returns c = sym (group_decides _ _ _ (omega arith) (omega arith) (omega arith))
