-- Texts at the ends of the ranges, by evaluation. Assumes nothing.
use mathlib.Core.List.{[], ◌∷◌}
use mathlib.Core.Path.{◌≡◌, refl}
use lib.IntN.{negsuc}
use Rattle.decimal.specs.Decimal.{decimal_digits, decimal, signed}

-- "0" and "10"
pub nought : decimal 0 ≡ 48 ∷ []
unfolding decimal decimal_digits
nought = refl

pub ten : decimal 10 ≡ 49 ∷ 48 ∷ []
unfolding decimal decimal_digits
ten = refl

-- "18446744073709551615", the largest 64-bit number
pub largest_64 : decimal 18446744073709551615
    ≡ 49 ∷ 56 ∷ 52 ∷ 52 ∷ 54 ∷ 55 ∷ 52 ∷ 52 ∷ 48 ∷ 55 ∷ 51 ∷ 55 ∷ 48 ∷ 57 ∷ 53 ∷ 53 ∷ 49 ∷ 54 ∷ 49 ∷ 53 ∷ []
unfolding decimal decimal_digits
largest_64 = refl

-- "-2147483648", the lowest 32-bit integer, and "-1"
pub lowest_32 : signed (negsuc 2147483647) ≡ 45 ∷ 50 ∷ 49 ∷ 52 ∷ 55 ∷ 52 ∷ 56 ∷ 51 ∷ 54 ∷ 52 ∷ 56 ∷ []
unfolding signed decimal decimal_digits
lowest_32 = refl

pub minus_one : signed (negsuc 0) ≡ 45 ∷ 49 ∷ []
unfolding signed decimal decimal_digits
minus_one = refl
