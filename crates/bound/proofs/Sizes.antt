-- No value on the way to the bound count of an order up to 64 is above 548,864, and none falls below 0. Assumes nothing.
use Prim.Native.Nat.{ℕ, zero, suc, ◌+◌, ◌*◌, ◌≤◌, zero-le}
use native.Mathlib.Nat.{mul-le-mul, mul-le-mul_right, le-mul_of_pos_right, zero-lt-suc}
use native.Mathlib.Omega.{arith}

pub record Sizes (n : ℕ) : Type 0 where
  pub square : n ≤ n * n
  pub cube : n * n ≤ n * n * n
  -- the highest value on the way, met at 64
  pub highest : 2 * (n * n * n) + 6 * (n * n) ≤ 548864

pub sizes : (n : ℕ) → n ≤ 64 → Sizes n
sizes n h =
    let low = le_square n in
    let high : n * n ≤ 64 * 64 = mul-le-mul h h in
    record { square = low; cube = mul-le-mul_right n low; highest = omega (arith, mul-le-mul high h) }
  where
    le_square : (n : ℕ) → n ≤ n * n
    le_square zero = zero-le
    le_square (suc n) = le-mul_of_pos_right (suc n) (zero-lt-suc n)
