-- Request R-7: 7 is no refusal's number, and it is given to nothing else. A verdict fixes the case of the enum, which can be told from it.
-- Assumes nothing.
use mathlib.Core.Bool.{cond}
use mathlib.Core.Logic.{◌≢◌}
use mathlib.Core.Path.{◌≡◌, refl, sym, ap, ◌∙◌}
use Prim.Native.Nat.{ℕ}
use native.Mathlib.Omega.{arith}
use lib.Dec.{eqb}
use Rattle.refusal.specs.declared.ChainReason.{ChainReason}
use Rattle.refusal.specs.declared.ChainReason.TheVariants as chain
use Rattle.refusal.specs.declared.BytesReason.{BytesReason}
use Rattle.refusal.specs.declared.BytesReason.TheVariants as bytes
use Rattle.refusal.specs.declared.Refusal.{Refusal}
use Rattle.refusal.specs.declared.Refusal.TheVariants.{Chain, Bytes}
use Rattle.std.specs.Prelude.{Err}
use Rattle.refusal.specs.declared.Line.{Line}
use Rattle.refusal.specs.Table.{of_chain, of_bytes, Verdict, accepts, refuses, line, verdict, Listed}

pub never_7 : (r : Refusal) → (line r).number ≢ 7
never_7 (Chain chain.Order) e = omega arith
never_7 (Chain chain.Lengths) e = omega arith
never_7 (Chain chain.Starts) e = omega arith
never_7 (Chain (chain.Columns row place)) e = omega arith
never_7 (Chain chain.Room) e = omega arith
never_7 (Chain (chain.ClosedSets first second)) e = omega arith
never_7 (Chain (chain.InNoRow state)) e = omega arith
never_7 (Chain (chain.InTwoRows state)) e = omega arith
never_7 (Chain (chain.TableRow row)) e = omega arith
never_7 (Chain (chain.ZeroRate row column)) e = omega arith
never_7 (Chain chain.JointOrder) e = omega arith
never_7 (Bytes bytes.Order) e = omega arith
never_7 (Bytes bytes.Room) e = omega arith
never_7 (Bytes bytes.Short) e = omega arith
never_7 (Bytes (bytes.Bit row bit)) e = omega arith
never_7 (Bytes bytes.Extra) e = omega arith
never_7 (Bytes (bytes.ZeroRate row column)) e = omega arith
never_7 (Bytes (bytes.Mark row bit)) e = omega arith

-- ---- the reason, told from its line

chain_reason : Line → ℕ → ChainReason
chain_reason l k =
    cond (eqb k 1) chain.Order (cond (eqb k 2) chain.Lengths (cond (eqb k 3) chain.Starts
    (cond (eqb k 4) (chain.Columns l.first l.second) (cond (eqb k 5) chain.Room
    (cond (eqb k 6) (chain.ClosedSets l.first l.second) (cond (eqb k 11) (chain.InNoRow l.first)
    (cond (eqb k 12) (chain.InTwoRows l.first) (cond (eqb k 13) (chain.TableRow l.first)
    (cond (eqb k 14) (chain.ZeroRate l.first l.second) chain.JointOrder)))))))))

bytes_reason : Line → ℕ → BytesReason
bytes_reason l k =
    cond (eqb k 1) bytes.Order (cond (eqb k 5) bytes.Room (cond (eqb k 8) bytes.Short
    (cond (eqb k 9) (bytes.Bit l.first l.second) (cond (eqb k 10) bytes.Extra
    (cond (eqb k 14) (bytes.ZeroRate l.first l.second) (bytes.Mark l.first l.second))))))

-- what an acceptance is given here does not matter
refusal_of : Verdict ℕ → Refusal
refusal_of (accepts k) = Chain chain.Order
refusal_of (refuses of_chain l) = Chain (chain_reason l l.number)
refusal_of (refuses of_bytes l) = Bytes (bytes_reason l l.number)

told_again : (r : Refusal) → refusal_of (verdict (Err r)) ≡ r
unfolding refusal_of chain_reason bytes_reason
told_again (Chain chain.Order) = refl
told_again (Chain chain.Lengths) = refl
told_again (Chain chain.Starts) = refl
told_again (Chain (chain.Columns row place)) = refl
told_again (Chain chain.Room) = refl
told_again (Chain (chain.ClosedSets first second)) = refl
told_again (Chain (chain.InNoRow state)) = refl
told_again (Chain (chain.InTwoRows state)) = refl
told_again (Chain (chain.TableRow row)) = refl
told_again (Chain (chain.ZeroRate row column)) = refl
told_again (Chain chain.JointOrder) = refl
told_again (Bytes bytes.Order) = refl
told_again (Bytes bytes.Room) = refl
told_again (Bytes bytes.Short) = refl
told_again (Bytes (bytes.Bit row bit)) = refl
told_again (Bytes bytes.Extra) = refl
told_again (Bytes (bytes.ZeroRate row column)) = refl
told_again (Bytes (bytes.Mark row bit)) = refl

pub verdict_fixes : (r s : Refusal) → verdict (Err s) ≡ verdict (Err r) → s ≡ r
verdict_fixes r s e = sym (told_again s) ∙ ap refusal_of e ∙ told_again r

-- kept since the port: today the check finds what cited it
pub is_listed : (r : Refusal) → Listed r (line r)
is_listed r = record { line_is = refl; never_7 = never_7 r; the_only = λ s e. verdict_fixes r s e }
