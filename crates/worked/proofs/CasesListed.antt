-- What each field of the contract of `listed` says of the chain's bad column, 4 with row and place; and evaluated, the text of a line and a search
-- of a range. Assumes nothing.
use Rattle.std.specs.Prelude.{Err, Some, None, [], ◌∷◌, ltb}
use mathlib.Core.Logic.{◌≢◌}
use mathlib.Core.Path.{◌≡◌, refl, sym, ap, ◌∙◌}
use Prim.Native.Nat.{ℕ}
use Rattle.refusal.specs.declared.ChainReason.TheVariants as chain
use Rattle.refusal.specs.declared.Refusal.{Refusal}
use Rattle.refusal.specs.declared.Refusal.TheVariants.{Chain}
use Rattle.refusal.specs.declared.Line.{Line}
use Rattle.std.specs.Fmt.{digits}
use Rattle.refusal.specs.Printed.{line_text}
use Rattle.basics.specs.First.{found}
use Rattle.refusal.specs.Table.{refuses, of_chain, numbered, verdict, Listed}

module _ {row place : ℕ} {l : Line} (h : Listed (Chain (chain.Columns row place)) l) where
  pub four : l ≡ numbered 4 row place
  four = h.line_is

  pub not_7 : l.number ≢ 7
  not_7 = h.never_7

  -- nothing else is told as 4 with this row and place
  pub no_other : (r : Refusal) → verdict (Err r) ≡ refuses of_chain (numbered 4 row place) → r ≡ Chain (chain.Columns row place)
  no_other r e = h.the_only r (e ∙ ap (refuses of_chain) (sym four))

-- 14 20 3
pub printed_line : line_text (numbered 14 20 3) ≡ 49 ∷ 52 ∷ 32 ∷ 50 ∷ 48 ∷ 32 ∷ 51 ∷ []
unfolding digits
printed_line = refl

pub searched : (found (ltb 3) 2 9 ≡ Some 4) × (found (ltb 8) 2 9 ≡ None)
searched = (refl, refl)
