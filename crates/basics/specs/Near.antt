-- Document 01's "x lies within c factors of y": x is at most y × F^c and y at most x × F^c, with the factor F = num / den
-- multiplied across, so that both sides are whole numbers. F is a parameter here: its value comes with the rounding.
use Rattle.std.specs.Prelude.{ℕ, zero, ◌*◌, ◌^◌, ◌≤◌, ◌<◌}

-- a fraction num / den that is at least 1
pub record Factor : Type 0 where
  pub num : ℕ
  pub den : ℕ
  pub den_pos : zero < den
  pub at_least_1 : den ≤ num

-- x ≤ y × F^c
pub record AtMost (F : Factor) (c x y : ℕ) : Type 0 where
  pub bound : x * F.den ^ c ≤ y * F.num ^ c

-- x lies within c factors of y
pub record Near (F : Factor) (c x y : ℕ) : Type 0 where
  pub under : AtMost F c x y
  pub over : AtMost F c y x

-- k factors are at most 2
pub record Mild (F : Factor) (k : ℕ) : Type 0 where
  pub at_most_2 : F.num ^ k ≤ 2 * F.den ^ k
