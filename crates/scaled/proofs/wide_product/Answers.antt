-- The exact product of two mantissas is rounded. Assumes nothing.
use mathlib.Core.Path.{ap, sym, ◌∙◌}
use Prim.Native.Nat.{◌*◌}
use native.Mathlib.Omega.{arith}
use lib.IntN.{ℤ}
use Rattle.scaled.specs.Scaled.{ranged_number, dyadic, nearest}
use Rattle.scaled.proofs.Signed32.{held_fits, held_small, stored}
use Rattle.scaled.proofs.Forms.{exponents_held}
use Rattle.scaled.proofs.Products.{raw_below, raw_above, product_is, product_zero}
use Rattle.scaled.proofs.wide_product.Goals as goal

pub overflow_mul-t : goal.overflow_mul-t
overflow_mul-t c = record { fits = raw_below _ _ c.requires.0 c.requires.1 }

pub returns-then-t-eq0 : goal.returns-then-t-eq0
returns-then-t-eq0 c = ap ranged_number c.zero.ensures ∙ sym (product_zero _ _ c.requires.0 c.requires.1 c.if-t-eq0.true)

pub overflow_add-a : goal.overflow_add-a
overflow_add-a c = held_fits (exponents_held _ _ c.requires.0 c.requires.1) (omega arith)

pub nearest_product-requires : goal.nearest_product-requires
nearest_product-requires c =
    let e = stored (exponents_held _ _ c.requires.0 c.requires.1) (omega arith) in
    (raw_above c.args.a c.args.b c.requires.0 c.requires.1 c.if-t-eq0.false, omega (arith, held_small e))

pub returns : goal.returns
returns c =
    let e = stored (exponents_held _ _ c.requires.0 c.requires.1) (omega arith) in
    c.nearest_product.ensures.result_value
    ∙ ap (λ (z : ℤ). nearest 31 (dyadic (c.args.a.m * c.args.b.m) z)) e.is
    ∙ product_is _ _ c.requires.0 c.requires.1
