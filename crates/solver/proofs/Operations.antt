-- The operations on scaled numbers keep the promises that the error bound asks, and have the room that the range theorem asks. Assumes nothing.
use mathlib.Core.Logic.{◌⊎◌, inl, inr}
use mathlib.Core.Path.{◌≡◌, refl, ap}
use Prim.Native.Nat.{ℕ, suc, ◌+◌, ◌*◌, ◌^◌, ◌≤◌, ◌<◌}
use native.Mathlib.Nat.{mul-le-mul_left, mul-le-mul_right, le_of_mul-le-mul_right, mul-pos, pow-suc}
use native.Mathlib.Omega.{arith}
use lib.Dec.{lit≤}
use lib.Pow.{pow_pos}
use Rattle.basics.specs.Near.{Near, Mild}
use Rattle.markov.specs.Count.{bound_count}
use Rattle.markov.specs.Promises.{Promises}
use Rattle.markov.proofs.Positive.{pos_right}
use Rattle.range.specs.Bounds.{most_states, margin}
use Rattle.range.specs.Range.{Ample}
use Rattle.scaled.specs.declared.Scaled.{Scaled}
use Rattle.std.specs.Prelude.{Option, Some, None}
use Rattle.scaled.specs.Scaled.{zero_number, sum_of, product_of, quotient_of}
use Rattle.scaled.specs.Units.{val, one, smallest, limit, factor}
use Rattle.scaled.proofs.Laws as laws
use Rattle.kernel.specs.Numbers.{Fit, settle, plus, times, divided_by, ops}
use Rattle.kernel.proofs.Operands.{number_of}

-- ---- right within one factor

module _ (x y : Scaled) where
  added_near : Fit (plus x y) → Near factor 1 (val (plus x y)) (val x + val y)
  unfolding plus
  added_near f = let n = number_of (sum_of x y) f in rw n.1 (laws.sum_near x y n.0 n.1)

  multiplied_near : Fit (times x y) → Near factor 1 (one * val (times x y)) (val x * val y)
  unfolding times
  multiplied_near f = let n = number_of (product_of x y) f in rw n.1 (laws.product_near x y n.0 n.1)

  divided_near : Fit (divided_by x y) → Near factor 1 (val (divided_by x y) * val y) (one * val x)
  unfolding divided_by
  divided_near f = let n = number_of (quotient_of x y) f in rw n.1 (laws.quotient_near x y n.0 n.1)

zero_plus : (x : Scaled) → Fit x → plus zero_number x ≡ x
unfolding plus
zero_plus x f = ap settle (laws.sum_zero_left x f)

pub plus_zero : (x : Scaled) → Fit x → plus x zero_number ≡ x
unfolding plus
plus_zero x f = ap settle (laws.sum_zero_right x f)

pub promises : Promises factor ops one val Fit
promises = record {
  one_pos = laws.one_pos;
  nought_is = laws.zero_value;
  unit_is = laws.one_value;
  added = λ x y fx fy f. record {
    left = λ z. ap val (rw (← laws.zero_of_value x fx z) at (zero_plus y fy));
    right = λ z. ap val (rw (← laws.zero_of_value y fy z) at (plus_zero x fx));
    near = added_near x y f;
  };
  multiplied = λ x y fx fy f. multiplied_near x y f;
  divided = λ x y fx fy f p. divided_near x y f;
}

-- K(64) factors are at most 2
pub factor_mild : Mild factor (bound_count most_states)
unfolding most_states bound_count
factor_mild = laws.factor_mild (bound_count most_states) (lit≤ tt)

-- ---- the ends of the range are farther from 1 than the margin

-- the margin, shut
room : ℕ
room = 2 ^ margin

room_pos : 0 < room
unfolding room
room_pos = pow_pos margin

low_end : smallest * room ≤ one
unfolding room margin
low_end = laws.smallest_below margin (lit≤ tt)

high_end : one * room < limit
unfolding room
high_end = omega (arith, double, mul-pos laws.one_pos (pow_pos margin))
  where
    double : 2 ^ margin * 2 * one ≤ limit
    double = unfold margin in rw (pow-suc 2 margin) at (laws.limit_above (suc margin) (lit≤ tt))

-- ---- an operation whose exact result is within the margin gives a number

add_fits : (x y : Scaled) → Fit x → Fit y → val x + val y ≤ one * room → Fit (plus x y)
unfolding plus
add_fits x y fx fy top = go (sum_of x y) refl
  where
    go : (r : Option Scaled) → sum_of x y ≡ r → Fit (settle r)
    go (Some r) e = laws.sum_scaled x y r e
    go None e = absurd (omega (arith, laws.sum_none x y fx fy e, high_end))

left_le : (x y : Scaled) → Fit (plus x y) → val x ≤ val (plus x y)
unfolding plus
left_le x y f = let n = number_of (sum_of x y) f in rw n.1 (laws.sum_left_le x y n.0 n.1)

mul_fits : (x y : Scaled) → Fit x → Fit y → (0 < val x * val y → one * one ≤ val x * val y * room) → val x * val y ≤ one * one * room → Fit (times x y)
unfolding times
mul_fits x y fx fy low top = go (product_of x y) refl
  where
    out : 0 < val x * val y → (val x * val y < smallest * one) ⊎ (limit * one ≤ val x * val y) → ⊥
    out p (inl l) =
        let near : smallest * one ≤ val x * val y = le_of_mul-le-mul_right {k = room} (omega (arith, low p, mul-le-mul_right one low_end)) room_pos in
        omega arith
    out p (inr l) = omega (arith, mul-le-mul_right one high_end, laws.one_pos)

    go : (r : Option Scaled) → product_of x y ≡ r → Fit (settle r)
    go (Some r) e = laws.product_scaled x y r e
    go None e = let n = laws.product_none x y fx fy e in absurd (out n.0 n.1)

div_fits : (x y : Scaled) → Fit x → Fit y → 0 < val y → (0 < val x → val y ≤ val x * room) → val x ≤ val y * room → Fit (divided_by x y)
unfolding divided_by
div_fits x y fx fy pos low top = go (quotient_of x y) refl
  where
    out : 0 < one * val x → (one * val x < smallest * val y) ⊎ (limit * val y ≤ one * val x) → ⊥
    out p (inl l) = omega (arith, mul-le-mul_left smallest (low (pos_right one (val x) p)), mul-le-mul_left (val x) low_end)
    out p (inr l) = omega (arith, mul-le-mul_right (val y) high_end, mul-le-mul_left one top)

    go : (r : Option Scaled) → quotient_of x y ≡ r → Fit (settle r)
    go (Some r) e = laws.quotient_scaled x y r e
    go None e = let n = laws.quotient_none x y fx fy pos e in absurd (out n.0 n.1)

pub ample : Ample ops one val Fit (2 ^ margin)
unfolding room
ample = record {
  nought_fits = laws.zero_scaled;
  unit_fits = laws.one_scaled;
  add_fits = add_fits;
  left_le = λ x y fx fy f. left_le x y f;
  mul_fits = mul_fits;
  div_fits = div_fits;
}
