-- The contract of `convert` leaves one content of every place and one answer. Assumes nothing.
use mathlib.Core.List.{List}
use mathlib.Core.Path.{◌≡◌, sym, ◌∙◌}
use Prim.Native.Nat.{ℕ}
use Rattle.conversion.specs.Conversion.{Conversion}

pub convert_determined : {bytes out after after₂ : List ℕ} {count count₂ : ℕ} → Conversion bytes out after count → Conversion bytes out after₂ count₂
    → (after ≡ after₂) × (count ≡ count₂)
convert_determined a b = (a.out_is ∙ sym b.out_is, a.count_is ∙ sym b.count_is)
