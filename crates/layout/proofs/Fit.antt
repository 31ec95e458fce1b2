-- The rates that bytes hold have 32 bits. Assumes nothing.
use mathlib.Core.Bool.{Bool, true, false}
use mathlib.Core.List.{List, [], ◌∷◌, ◌++◌}
use Prim.Native.Nat.{ℕ, zero, suc, ◌+◌, ◌<◌}
use native.Mathlib.Omega.{arith}
use lib.ListN.{get_or}
use Rattle.layout.specs.declared.Form.{Form}
use Rattle.layout.specs.Forms.{width}
use Rattle.layout.specs.Bytes.{maps_of, marked, stored_columns, short_rate, stored_rate, rate_at, rates_at, stored_rates, row_end, rates_in, form_of, chain_of}

small_append : (k : ℕ) (xs ys : List ℕ) → ((i : ℕ) → get_or xs i 0 < k) → ((i : ℕ) → get_or ys i 0 < k) → (i : ℕ) → get_or (xs ++ ys) i 0 < k
small_append k [] ys p q i = q i
small_append k (x ∷ xs) ys p q zero = p zero
small_append k (x ∷ xs) ys p q (suc i) = small_append k xs ys (λ j. p (suc j)) q i

module _ (bytes : List ℕ) (fit : (i : ℕ) → get_or bytes i 0 < 256) where
  rate_small : (mark : Bool) (place : ℕ) → rate_at mark bytes place < 4294967296
  unfolding short_rate stored_rate
  rate_small true place = omega (arith, fit place, fit (place + 1))
  rate_small false place = omega (arith, fit place, fit (place + 1), fit (place + 2), fit (place + 3))

  rates_small : (marks : ℕ → Bool) (columns : List ℕ) (place i : ℕ) → get_or (rates_at marks bytes columns place) i 0 < 4294967296
  rates_small marks [] place i = omega arith
  rates_small marks (column ∷ columns) place zero = rate_small (marks column) place
  rates_small marks (column ∷ columns) place (suc i) = rates_small marks columns (place + width (marks column)) i

  rows_small : (form : Form) (n k map i : ℕ) → get_or (rates_in form bytes n k map) i 0 < 4294967296
  rows_small form n zero map i = omega arith
  rows_small form n (suc k) map i =
      small_append 4294967296 (stored_rates form bytes n map) (rates_in form bytes n k (row_end form bytes n map))
      (rates_small (marked form bytes n map) (stored_columns bytes n map) (map + maps_of form n)) (rows_small form n k (row_end form bytes n map)) i

  pub rates_fit : (i : ℕ) → get_or (chain_of bytes).rates i 0 < 4294967296
  rates_fit = rows_small (form_of bytes) (chain_of bytes).order (chain_of bytes).order 1
