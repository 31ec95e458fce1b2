-- What the private functions leave. No public promise needs this file.
use Rattle.std.specs.Prelude.{ℕ, List, ◌∷◌, ◌++◌}
use Rattle.scaled.specs.declared.Scaled.{Scaled}
use Rattle.decimal.specs.Decimal.{decimal, signed}
use Rattle.refused.specs.Refused.{blank}

-- of a scaled number m and e, each after a blank
abbrev pub fields : Scaled → List ℕ
fields x = blank ∷ (decimal x.m ++ (blank ∷ signed x.e))
