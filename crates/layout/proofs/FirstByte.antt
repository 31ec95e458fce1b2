-- What the first byte of a file tells: its form and its order, and that no byte of form 2 is an order of document 01. Assumes nothing.
use Prim.Native.Nat.{ℕ, ◌+◌, ◌<◌, ◌≤◌}
use mathlib.Core.Bool.{Bool, true, false}
use mathlib.Core.List.{List}
use mathlib.Core.Logic.{◌≢◌}
use mathlib.Core.Path.{◌≡◌, refl}
use native.Mathlib.Omega.{arith}
use lib.Dec.{ltb}
use lib.ListN.{get_or}
use borrow.Author.Tests.{lt-ltb, le-ltb, lt-leb, ltb-true}
use Rattle.chain.specs.Rules.{order_sound}
use Rattle.layout.specs.declared.Form.{Form}
use Rattle.layout.specs.declared.Form.TheVariants.{One, Two}
use Rattle.layout.specs.Forms.{lead, form_in, order_in}
use Rattle.layout.specs.Bytes.{form_of}

module _ (n : ℕ) (some : 0 < n) (few : n ≤ 64) where
  pub form_in_lem : (form : Form) → form_in (lead form + n) ≡ form
  unfolding form_in
  form_in_lem One = rw (le-ltb 128 (0 + n) (omega arith))
  form_in_lem Two = rw (lt-ltb 128 (128 + n) (omega arith))

  pub order_in_lem : (form : Form) → order_in (lead form + n) ≡ n
  unfolding order_in form_in
  order_in_lem One = rw (le-ltb 128 (0 + n) (omega arith)) (omega arith)
  order_in_lem Two = rw (lt-ltb 128 (128 + n) (omega arith)) (omega arith)

  -- no file begins with the letter r of a refusal's line
  pub no_letter : (form : Form) → lead form + n ≢ 114
  no_letter One q = omega arith
  no_letter Two q = omega arith

-- and back
pub first_in : (first : ℕ) → lead (form_in first) + order_in first ≡ first
unfolding form_in order_in
first_in first = go (ltb 128 first) refl
  where
    go : (b : Bool) → ltb 128 first ≡ b → lead (form_in first) + order_in first ≡ first
    go true t = rw t (omega (arith, ltb-true 128 first t))
    go false t = rw t (omega arith)

-- every first byte of form 2 is above 64
two_above : (first : ℕ) → form_in first ≡ Two → 64 < first
unfolding form_in
two_above first e = go (ltb 128 first) refl
  where
    go : (b : Bool) → ltb 128 first ≡ b → 64 < first
    go true t = omega (arith, ltb-true 128 first t)
    go false t = absurd (let q : ◌≡◌ {A = Form} One Two = rw t at e in let z : ◌≡◌ {A = ℕ} 0 1 = cc in omega arith)

-- "an old program refuses form 2 by number 1": it took the first byte for the order
pub old_refuses : (bytes : List ℕ) → form_of bytes ≡ Two → order_sound (get_or bytes 0 0) ≡ false
old_refuses bytes e = let h = two_above (get_or bytes 0 0) e in rw (lt-ltb 0 (get_or bytes 0 0) (omega (arith, h))) (lt-leb (get_or bytes 0 0) 64 h)
