-- Where k factors are at most 2, whatever lies within k factors lies within 2; and a factor close to 1 is such. Assumes nothing.
use mathlib.Core.Path.{◌≡◌}
use Prim.Native.Nat.{ℕ, zero, suc, ◌+◌, ◌-◌, ◌*◌, ◌^◌, ◌≤◌, ◌<◌}
use native.Mathlib.Nat.{mul-le-mul_left, mul-le-mul_right, le_of_mul-le-mul_left, one-le-pow, pow-suc, pow-zero}
use native.Mathlib.Omega.{arith}
use Rattle.basics.specs.Near.{Factor, AtMost, Mild}
use Rattle.basics.proofs.NearLaws.{at_most_more}

pub within_2 : {F : Factor} {k c x y : ℕ} → Mild F k → c ≤ k → AtMost F c x y → x ≤ 2 * y
within_2 {F} {k} {c} {x} {y} m l h =
    let p : x * F.den ^ k ≤ y * F.num ^ k = (at_most_more l h).bound in
    le_of_mul-le-mul_left {k = F.den ^ k} (omega (arith, mul-le-mul_left y m.at_most_2)) (one-le-pow k F.den F.den_pos)

-- Bernoulli's inequality, multiplied across: (d / (d + g))^c is at least 1 - c × g / (d + g)
bernoulli : (d g k c : ℕ) → c * g + k ≡ d + g → (d + g) ^ c * k ≤ d ^ c * (d + g)
bernoulli d g k zero e = rw (pow-zero (d + g), pow-zero d) (omega arith)
bernoulli d g k (suc c) e =
    let le : k ≤ d = omega arith in
    let small : (d + g) * k ≤ d * (g + k) = omega (arith, mul-le-mul_left g le) in
    rw (pow-suc (d + g) c, pow-suc d c)
    (omega (arith, mul-le-mul_right d (bernoulli d g (g + k) c (omega arith)), mul-le-mul_left ((d + g) ^ c) small))

-- the k-th power of a factor 1 + g / d is at most 2 where 2 × k × g is at most d + g
pub mild : {F : Factor} {k : ℕ} (g : ℕ) → F.num ≡ F.den + g → 2 * (k * g) ≤ F.num → Mild F k
mild {F} {k} g e l = record { at_most_2 = rw e (le_of_mul-le-mul_left {k = d + g} (omega (arith, bernoulli d g j k (omega arith), mul-le-mul_left ((d + g) ^ k) half)) pos) }
  where
    d : ℕ
    d = F.den

    j : ℕ
    j = d + g - k * g

    half : d + g ≤ 2 * j
    half = omega arith

    pos : zero < d + g
    pos = omega (arith, F.den_pos)
