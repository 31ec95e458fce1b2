-- The lines: their lengths, and those of the states put one after the other. Assumes nothing.
use Prim.Native.Nat.{ℕ, suc, ◌+◌, ◌-◌, ◌^◌, ◌≤◌, ◌<◌}
use mathlib.Core.List.{List, [], ◌∷◌, ◌++◌, append_assoc}
use mathlib.Core.Path.{◌≡◌, sym, ap₂, ◌∙◌}
use native.Mathlib.Omega.{arith}
use lib.IntN.{nat_abs}
use lib.ListN.{length, length-append}
use lib.Seq.{sets}
use Rattle.scaled.specs.declared.Scaled.{Scaled}
use Rattle.decimal.specs.Decimal.{decimal, signed}
use Rattle.decimal.specs.Put.{Puts}
use Rattle.decimal.proofs.DecimalLaws.{decimal_length, signed_length}
use Rattle.decimal.proofs.Writing.{then}
use Rattle.basics.proofs.SetsLaws.{sets_append}
use Rattle.lines.specs.Inner.{fields}
use Rattle.refused.specs.Refused.{newline}
use Rattle.lines.specs.Lines.{header_line, state_line, state_lines, answer_lines}

-- ---- the length of a line, by its numbers

pub header_size : (n K : ℕ) → length (header_line n K) ≡ 15 + length (decimal n) + length (decimal K)
unfolding header_line
header_size n K = simp length-append (omega arith)

pub state_size : (number : ℕ) (weight share : Scaled) → length (state_line number weight share)
    ≡ 5 + length (decimal number) + length (decimal weight.m) + length (signed weight.e) + length (decimal share.m) + length (signed share.e)
unfolding state_line
state_size number weight share = simp length-append (omega arith)

pub answer_size : (n K : ℕ) (weight share : ℕ → Scaled)
    → length (answer_lines n K weight share) ≡ length (header_line n K) + length (state_lines weight share n 0)
answer_size n K weight share = length-append (header_line n K) (state_lines weight share n 0)

-- ---- the line of a state, put in four parts

pub state_put : (n : ℕ) (w s : Scaled) {at p q r next : ℕ} {o o₁ o₂ o₃ after : List ℕ} → Puts o at (decimal n) o₁ p → Puts o₁ p (fields w) o₂ q
    → Puts o₂ q (fields s) o₃ r → Puts o₃ r (newline ∷ []) after next → Puts o at (state_line n w s) after next
unfolding state_line
state_put n w s a b c d = simp append_assoc at (then a (then b (then c d)))

-- ---- how long a line can be

-- the first line, for at most 99 states and a bound count below a million
pub header_length : (n K : ℕ) → n < 100 → K < 1000000 → length (header_line n K) ≤ 23
header_length n K a b = omega (arith, header_size n K, decimal_length 1 n (omega arith), decimal_length 5 K (omega arith))

-- a state's line, for at most 99 states and exponents of at most five digits
pub state_length : (number : ℕ) (weight share : Scaled) → number < 100
    → weight.m < 2 ^ 32 → nat_abs weight.e < 100000 → share.m < 2 ^ 32 → nat_abs share.e < 100000
    → length (state_line number weight share) ≤ 39
state_length number weight share a b c d e =
    omega (
      arith,
      state_size number weight share,
      decimal_length 1 number (omega arith),
      decimal_length 9 weight.m (omega arith),
      signed_length 4 weight.e (omega arith),
      decimal_length 9 share.m (omega arith),
      signed_length 4 share.e (omega arith),
    )

-- ---- the lines of the states, put one after the other

-- before state i: what is left to put from p on is the lines of the states from i on
pub record Rest (weight share : ℕ → Scaled) (n at : ℕ) (out₀ out : List ℕ) (p i : ℕ) : Type 0 where
  pub out_is : sets out₀ at (state_lines weight share n 0) ≡ sets out p (state_lines weight share (n - i) i)
  pub next_is : at + length (state_lines weight share n 0) ≡ p + length (state_lines weight share (n - i) i)

module _ (weight share : ℕ → Scaled) (n at : ℕ) (out₀ : List ℕ) where
  module _ {out : List ℕ} {p i : ℕ} (h : Rest weight share n at out₀ out p i) where
    pub rest_end : n ≤ i → Puts out₀ at (state_lines weight share n 0) out p
    unfolding state_lines
    rest_end l =
        let e : n - i ≡ 0 = omega arith in
        record { out_is = sym (rw e at h.out_is); next_is = sym (rw e at h.next_is ∙ omega arith) }

    module _ {w s : Scaled} (l : i < n) (a : w ≡ weight i) (b : s ≡ share i) where
      opened : state_lines weight share (n - i) i ≡ state_line i w s ++ state_lines weight share (n - (i + 1)) (i + 1)
      unfolding state_lines
      opened = let e : n - i ≡ suc (n - (i + 1)) = omega arith in rw (e, a, b)

      size_here : length (state_lines weight share (n - i) i) ≡ length (state_line i w s) + length (state_lines weight share (n - (i + 1)) (i + 1))
      size_here = rw opened (length-append (state_line i w s) _)

      pub rest_room : at + length (state_lines weight share n 0) ≤ length out → p + length (state_line i w s) ≤ length out
      rest_room room = omega (arith, h.next_is, size_here)

      pub rest_next : {after : List ℕ} {next : ℕ} → Puts out p (state_line i w s) after next → Rest weight share n at out₀ after next (i + 1)
      rest_next put =
          let rest = state_lines weight share (n - (i + 1)) (i + 1) in
          record {
            out_is = rw opened at h.out_is ∙ sets_append out p (state_line i w s) rest ∙ ap₂ (λ (o : List ℕ) (q : ℕ). sets o q rest) (sym put.out_is) (sym put.next_is);
            next_is = omega (arith, h.next_is, size_here, put.next_is);
          }
