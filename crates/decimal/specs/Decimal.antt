-- Document 01, "The printing program": numbers are "all decimal". The text of a number is a list of bytes (ASCII).
use Rattle.std.specs.Prelude.{ℕ, zero, suc, ◌+◌, ◌/◌, ◌%◌, List, [], ◌∷◌, ◌++◌, ℤ, pos, negsuc}

-- the byte of a digit below 10: 48 is '0'
abbrev pub digit : ℕ → ℕ
digit d = 48 + d

-- the digits of n, the highest first, without zeros in front: those of n / 10, then n % 10. For 0 there are none.
-- `turns` is at least n, so that the definition ends.
unfoldable pub decimal_digits : ℕ → ℕ → List ℕ
decimal_digits zero n = []
decimal_digits (suc turns) zero = []
decimal_digits (suc turns) (suc n) = decimal_digits turns (suc n / 10) ++ (digit (suc n % 10) ∷ [])

-- the decimal text of a whole number
unfoldable pub decimal : ℕ → List ℕ
decimal zero = digit 0 ∷ []
decimal (suc n) = decimal_digits (suc n) (suc n)

-- 45 is '-'
abbrev pub minus_sign : ℕ
minus_sign = 45

-- the decimal text of an integer: a negative one has the sign in front
unfoldable pub signed : ℤ → List ℕ
signed (pos n) = decimal n
signed (negsuc n) = minus_sign ∷ decimal (suc n)
