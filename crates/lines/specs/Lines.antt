-- Document 01, "The printing program": the lines of an answer, "all decimal, single blanks".
use Rattle.std.specs.Prelude.{ℕ, zero, suc, ◌+◌, List, [], ◌∷◌, ◌++◌}
use Rattle.scaled.specs.declared.Scaled.{Scaled}
use Rattle.decimal.specs.Decimal.{decimal, signed}
use Rattle.refused.specs.Refused.{line_of}

-- the words that the program prints, in ASCII
abbrev pub states : List ℕ
states = 115 ∷ 116 ∷ 97 ∷ 116 ∷ 101 ∷ 115 ∷ []

abbrev pub bound : List ℕ
bound = 98 ∷ 111 ∷ 117 ∷ 110 ∷ 100 ∷ []

-- "one line "states n bound K""
unfoldable pub header_line : ℕ → ℕ → List ℕ
header_line n K = line_of states (decimal n ∷ bound ∷ decimal K ∷ [])

-- "its number, weight m, weight e, share m, share e"
unfoldable pub state_line : ℕ → Scaled → Scaled → List ℕ
state_line number weight share =
    line_of (decimal number) (decimal weight.m ∷ signed weight.e ∷ decimal share.m ∷ signed share.e ∷ [])

-- "for each state": the lines of `count` states from state i on
unfoldable pub state_lines : (ℕ → Scaled) → (ℕ → Scaled) → ℕ → ℕ → List ℕ
state_lines weight share zero i = []
state_lines weight share (suc count) i = state_line i (weight i) (share i) ++ state_lines weight share count (i + 1)

-- "one line "states n bound K", then for each state"
abbrev pub answer_lines : ℕ → ℕ → (ℕ → Scaled) → (ℕ → Scaled) → List ℕ
answer_lines n K weight share = header_line n K ++ state_lines weight share n 0
