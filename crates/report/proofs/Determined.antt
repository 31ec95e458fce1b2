-- The contract determines the outcome. Assumes nothing.
use Prim.Native.Nat.{ℕ}
use mathlib.Core.List.{List}
use mathlib.Core.Path.{◌≡◌, sym, ◌∙◌}
use Rattle.report.specs.Report.{Reports}

pub report_determined : {bytes out after after₂ : List ℕ} {count count₂ : ℕ} → Reports bytes out after count → Reports bytes out after₂ count₂
    → (after ≡ after₂) × (count ≡ count₂)
report_determined a b = (a.out_is ∙ sym b.out_is, a.count_is ∙ sym b.count_is)
