-- The first `enough_bytes` bytes of an input decide its text. Assumes nothing.
use Prim.Native.Nat.{ℕ, ◌<◌}
use mathlib.Core.Bool.{Bool, true, false}
use mathlib.Core.List.{List}
use mathlib.Core.Path.{◌≡◌, refl, ap, ◌∙◌}
use native.Mathlib.Omega.{arith}
use borrow.Author.Tests.{leb-true, leb-false}
use lib.Dec.{leb}
use lib.ListN.{length, take}
use lib.Seq.{get_or-take, length-take-le, take_all}
use Rattle.refusal.specs.Table.{Side, Verdict, accepts, refuses}
use Rattle.refusal.specs.declared.Line.{Line}
use Rattle.file_rules.specs.Sound.{zeros_refused}
use Rattle.file_rules.specs.Verdict.{file_checked}
use Rattle.storage.proofs.Passes.{file_small_both}
use Rattle.storage.proofs.Prefix.{Agree, file_same}
use Rattle.layout.specs.File.{enough_bytes}
use Rattle.report.specs.Report.{text_after, report_of}

-- of any text that a refusal alone decides where bytes are refused
pub prefix_decides : (zeros : Bool) (text : List ℕ → Verdict ℕ → List ℕ)
    → ((a b : List ℕ) (side : Side) (line : Line) → text a (refuses side line) ≡ text b (refuses side line))
    → (bytes : List ℕ) → text (take enough_bytes bytes) (file_checked zeros (take enough_bytes bytes)) ≡ text bytes (file_checked zeros bytes)
prefix_decides zeros text same bytes = go (leb (length bytes) enough_bytes) refl
  where
    -- a longer input is refused, by the same line
    refused : enough_bytes < length bytes → (v : Verdict ℕ) → file_checked zeros bytes ≡ v → text (take enough_bytes bytes) v ≡ text bytes v
    refused l (accepts e) q = absurd (omega (arith, file_small_both zeros bytes e q))
    refused l (refuses side line) q = same (take enough_bytes bytes) bytes side line

    agree : enough_bytes < length bytes → Agree enough_bytes (take enough_bytes bytes) bytes
    agree l = record {
      same = λ i h. get_or-take enough_bytes bytes i 0 h;
      long_s = omega (arith, length-take-le enough_bytes bytes (omega arith));
      long_t = omega arith;
    }

    go : (b : Bool) → leb (length bytes) enough_bytes ≡ b
        → text (take enough_bytes bytes) (file_checked zeros (take enough_bytes bytes)) ≡ text bytes (file_checked zeros bytes)
    go true e = rw (take_all enough_bytes bytes (leb-true (length bytes) enough_bytes e))
    go false e =
        let l = leb-false (length bytes) enough_bytes e in
        ap (text (take enough_bytes bytes)) (file_same zeros (agree l)) ∙ refused l (file_checked zeros bytes) refl

pub input_suffices : (bytes : List ℕ) → report_of (take enough_bytes bytes) ≡ report_of bytes
unfolding report_of
input_suffices = prefix_decides zeros_refused text_after (λ a b side line. refl)
