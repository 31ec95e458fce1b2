-- The size of a file of form 2 by counts. Assumes nothing.
use Prim.Native.Nat.{ℕ, ◌+◌, ◌*◌}
use mathlib.Core.Bool.{Bool, true, false, cond}
use mathlib.Core.List.{List, [], ◌∷◌}
use mathlib.Core.Path.{◌≡◌, refl}
use native.Mathlib.Omega.{arith}
use Rattle.layout.specs.declared.Form.TheVariants.{Two}
use Rattle.layout.specs.Forms.{short, width}
use Rattle.layout.specs.Bytes.{map_bytes}
use Rattle.layout.specs.File.{rates_size, file_size}

-- how many rates are below 65,536, and how many are not
abbrev pub below : List ℕ → ℕ
below [] = 0
below (rate ∷ rates) = cond (short Two rate) 1 0 + below rates

abbrev pub others : List ℕ → ℕ
others [] = 0
others (rate ∷ rates) = cond (short Two rate) 0 1 + others rates

rates_two : (rates : List ℕ) → rates_size Two rates ≡ 2 * below rates + 4 * others rates
rates_two [] = refl
rates_two (rate ∷ rates) = go (short Two rate) (rates_two rates)
  where
    go : (b : Bool) → rates_size Two rates ≡ 2 * below rates + 4 * others rates
        → width b + rates_size Two rates ≡ 2 * (cond b 1 0 + below rates) + 4 * (cond b 0 1 + others rates)
    go true e = omega (arith, e)
    go false e = omega (arith, e)

pub file_size_two : (n : ℕ) (rates : List ℕ) → file_size Two n rates ≡ 1 + 2 * n * map_bytes n + 2 * below rates + 4 * others rates
file_size_two n rates = omega (arith, rates_two rates)
