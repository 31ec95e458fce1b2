-- How a refusal's line is printed.
use Rattle.std.specs.Prelude.{List, ℕ, ◌++◌, ◌∷◌}
use Rattle.std.specs.Fmt.{decimal}
use Rattle.refusal.specs.declared.Line.{Line}

-- its number and its two places in decimal digits, with a blank (32) between each two
abbrev pub line_text : Line → List ℕ
line_text line = decimal line.number ++ (32 ∷ (decimal line.first ++ (32 ∷ decimal line.second)))
