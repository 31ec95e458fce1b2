-- A line of three different numbers, by evaluation: it tells which is which. Assumes nothing.
use mathlib.Core.List.{[], ◌∷◌}
use mathlib.Core.Path.{◌≡◌, refl}
use Rattle.refusal.specs.Table.{numbered}
use Rattle.decimal.specs.Decimal.{decimal_digits, decimal}
use Rattle.refused.specs.Refused.{refused_line}

-- docs/FORMAT.md's old file of nine states, whose move from 0 to 8 has rate 0: "refused 14 0 8"
pub number_then_places : refused_line (numbered 14 0 8)
    ≡ 114 ∷ 101 ∷ 102 ∷ 117 ∷ 115 ∷ 101 ∷ 100 ∷ 32 ∷ 49 ∷ 52 ∷ 32 ∷ 48 ∷ 32 ∷ 56 ∷ 10 ∷ []
unfolding refused_line decimal decimal_digits
number_then_places = refl
