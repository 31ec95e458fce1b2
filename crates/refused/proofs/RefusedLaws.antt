-- The length of the line of a refusal. Assumes nothing.
use Prim.Native.Nat.{◌+◌, ◌^◌, ◌≤◌, ◌<◌}
use mathlib.Core.Path.{◌≡◌}
use native.Mathlib.Omega.{arith}
use lib.ListN.{length, length-append}
use Rattle.refusal.specs.declared.Line.{Line}
use Rattle.decimal.specs.Decimal.{decimal}
use Rattle.decimal.proofs.DecimalLaws.{decimal_length, decimal_64}
use Rattle.refused.specs.Refused.{refused_line, longest_refused}

-- by its numbers
pub refused_size : (l : Line) → length (refused_line l) ≡ 11 + length (decimal l.number) + length (decimal l.first) + length (decimal l.second)
unfolding refused_line
refused_size l = simp length-append (omega arith)

-- for any places
pub refused_length : (l : Line) → l.number < 2 ^ 32 → l.first < 2 ^ 64 → l.second < 2 ^ 64 → length (refused_line l) ≤ longest_refused
refused_length l a b c =
    omega (arith, refused_size l, decimal_length 9 l.number (omega arith), decimal_64 l.first b, decimal_64 l.second c)
