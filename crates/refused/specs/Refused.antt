-- Document 01, "The printing program": a line of words, "all decimal, single blanks", and the line of a refusal, which every program prints.
use Rattle.std.specs.Prelude.{ℕ, ◌+◌, List, [], ◌∷◌, ◌++◌}
use Rattle.refusal.specs.declared.Line.{Line}
use Rattle.decimal.specs.Decimal.{decimal}

-- 32 is the blank, 10 ends a line
abbrev pub blank : ℕ
blank = 32

abbrev pub newline : ℕ
newline = 10

-- words with single blanks between them, and the end of the line
abbrev pub line_of : List ℕ → List (List ℕ) → List ℕ
line_of word [] = word ++ (newline ∷ [])
line_of word (next ∷ others) = word ++ (blank ∷ line_of next others)

-- the word, in ASCII
abbrev pub refused : List ℕ
refused = 114 ∷ 101 ∷ 102 ∷ 117 ∷ 115 ∷ 101 ∷ 100 ∷ []

-- "A refusal is the one line "refused", its number, its two places."
unfoldable pub refused_line : Line → List ℕ
refused_line l = line_of refused (decimal l.number ∷ decimal l.first ∷ decimal l.second ∷ [])

-- no such line is longer: the word, three blanks, a number of at most 10 digits, two places of at most 20, the end of the line
abbrev pub longest_refused : ℕ
longest_refused = 7 + 3 + 10 + 20 + 20 + 1
