-- The product is rounded, and then its sum with x. Assumes nothing.
use mathlib.Core.Path.{◌≡◌, refl, ap, sym, ◌∙◌}
use mathlib.Core.Bool.{true}
use Prim.Native.Nat.{◌*◌}
use native.Mathlib.Nat.{mul-le-mul, zero-mul, mul-zero}
use native.Mathlib.Omega.{arith}
use lib.IntN.{ℤ, ◌+ℤ◌}
use mir.Syntax.{w32}
use mir.Val.{to_z, of_z}
use Rattle.scaled.specs.declared.Scaled.{Scaled}
use Rattle.std.specs.Prelude.{Some}
use Rattle.scaled.specs.Scaled.{is_scaled, is_number, ranged_number, dyadic, nearest, product_of, sum_of, sum_with, sum_with_product}
use Rattle.scaled.proofs.Signed32.{held_fits, held_small, stored}
use Rattle.scaled.proofs.Forms.{form, m_big, exponents_held, known_range, own_number, zero_scaled}
use Rattle.scaled.proofs.Alignment.{sum_zero_left, sum_zero_right}
use Rattle.scaled.proofs.Products.{raw_below, product_is, product_zero}
use Rattle.scaled.proofs.Laws.{product_scaled}
use Rattle.scaled.proofs.add_product.Goals as goal

-- a product with a factor Zero leaves x
x_kept : (x a t : Scaled) → is_scaled x ≡ true → is_scaled a ≡ true → is_scaled t ≡ true → a.m * t.m ≡ 0 → ranged_number x ≡ sum_with_product x a t
unfolding is_scaled sum_of
x_kept x a t sx sa st z =
    own_number 31 x sx ∙ sum_zero_right 31 x _ sx (zero_scaled 31) refl ∙ sym (ap (sum_with x) (product_zero a t sa st z))

pub returns-then-a-eq0 : goal.returns-then-a-eq0
returns-then-a-eq0 c = x_kept _ _ _ c.requires.0 c.requires.1 c.requires.2 (rw c.if-a-eq0.true (zero-mul _))

pub returns-then-t-eq0 : goal.returns-then-t-eq0
returns-then-t-eq0 c = x_kept _ _ _ c.requires.0 c.requires.1 c.requires.2 (rw c.if-t-eq0.true (mul-zero _))

pub overflow_mul-n : goal.overflow_mul-n
overflow_mul-n c = record { fits = raw_below _ _ c.requires.1 c.requires.2 }

pub overflow_add-a : goal.overflow_add-a
overflow_add-a c = held_fits (exponents_held _ _ c.requires.1 c.requires.2) (omega arith)

pub nearest_product-p-requires : goal.nearest_product-p-requires
unfolding is_scaled
nearest_product-p-requires c = (
  mul-le-mul (m_big (form 31 _ c.requires.1) c.if-a-eq0.false) (m_big (form 31 _ c.requires.2) c.if-t-eq0.false),
  omega (arith, held_small (stored (exponents_held _ _ c.requires.1 c.requires.2) (omega arith))),
)

-- ---- the product p, which is a scaled number and not Zero: y is its exponent as the machine holds it
module _ (a t p : Scaled) (sa : is_scaled a ≡ true) (st : is_scaled t ≡ true) (number : is_number (product_of a t) ≡ true)
    (made_p : ranged_number p ≡ nearest 31 (dyadic (a.m * t.m) (to_z w32 (of_z w32 (to_z w32 (of_z w32 a.e) +ℤ to_z w32 (of_z w32 t.e)))))) where
  made : product_of a t ≡ Some p
  made =
      let e =
      made_p ∙ ap (λ (z : ℤ). nearest 31 (dyadic (a.m * t.m) z)) (stored (exponents_held a t sa st) (omega arith)).is ∙ product_is a t sa st in
      sym e ∙ simp (known_range p.m p.e (ap is_number e ∙ number))

  scaled : is_scaled p ≡ true
  scaled = product_scaled _ _ _ made

pub returns-then-x-eq0 : goal.returns-then-x-eq0
unfolding is_scaled sum_of
returns-then-x-eq0 c =
    let x = c.args.x in
    let p = c.nearest_product-p.result in
    let e = made _ _ p c.requires.1 c.requires.2 c.requires.3 c.nearest_product-p.ensures.result_value in
    let s = scaled _ _ p c.requires.1 c.requires.2 c.requires.3 c.nearest_product-p.ensures.result_value in
    own_number 31 p s ∙ sum_zero_left 31 x p c.requires.0 s c.if-x-eq0.true ∙ sym (ap (sum_with x) e)

pub positive_sum-requires : goal.positive_sum-requires
positive_sum-requires c =
    let p = c.nearest_product-p in
    record {
      scaled = (c.requires.0, scaled _ _ p.result c.requires.1 c.requires.2 c.requires.3 p.ensures.result_value);
      positive = (omega arith, omega (arith, p.ensures.le_m));
    }

pub returns : goal.returns
returns c =
    let p = c.nearest_product-p in
    c.positive_sum.ensures ∙ sym (ap (sum_with c.args.x) (made _ _ p.result c.requires.1 c.requires.2 c.requires.3 p.ensures.result_value))
