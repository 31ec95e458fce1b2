-- The chain in rows of a rate function, of an order n: row x has an entry at each column y below n with a positive rate from x to y, columns
-- rising, and the entry's rate is that rate.
use Rattle.std.specs.Prelude.{ℕ, zero, suc, ◌+◌, List, [], ◌∷◌, ◌++◌, length}
use Rattle.basics.specs.Lists.{table}
use Rattle.markov.specs.Chain.{Rates}
use Rattle.chain.specs.Rows.{Rows, rows}

-- n lists one after another, those of 0, .., n - 1
unfoldable pub together : ℕ → (ℕ → List ℕ) → List ℕ
together zero lists = []
together (suc n) lists = together n lists ++ lists n

-- what a move of this rate puts into a list: a rate of 0 makes no entry
abbrev pub entry : ℕ → ℕ → List ℕ
entry zero value = []
entry (suc rate) value = value ∷ []

-- the columns and the rates of row x
abbrev pub columns_of : ℕ → Rates → ℕ → List ℕ
columns_of n f x = together n (λ y. entry (f x y) y)

abbrev pub rates_of : ℕ → Rates → ℕ → List ℕ
rates_of n f x = together n (λ y. entry (f x y) (f x y))

-- the place at which row x starts: the number of entries in the rows before it
abbrev pub start_of : ℕ → Rates → ℕ → ℕ
start_of n f x = length (together x (columns_of n f))

unfoldable pub from_rates : ℕ → Rates → Rows
from_rates n f = rows n (table (n + 1) (start_of n f)) (together n (columns_of n f)) (together n (rates_of n f))
