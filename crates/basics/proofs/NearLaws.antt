-- A calculus of rounding errors: the laws of "within c factors". Counts add up as numbers do. Assumes nothing.
use mathlib.Core.Path.{◌≡◌, sym, subst, subst₂, ◌∙◌}
use Prim.Native.Nat.{ℕ, zero, suc, ◌+◌, ◌-◌, ◌*◌, ◌^◌, ◌≤◌, ◌<◌, suc-le-suc}
use native.Mathlib.Nat.{one-le-pow, le-mul_of_pos_right, add_comm, le_refl, add-sub_of_le, mul-le-mul, mul-le-mul_left, mul-le-mul_right, le_of_mul-le-mul_left, pow-zero, pow-suc, pow-le-pow_left}
use native.Mathlib.Omega.{arith}
use lib.Pow.{pow-add}
use Rattle.basics.specs.Sum.{sum}
use Rattle.basics.specs.Near.{Factor, AtMost, Near}

pow_one : (a : ℕ) → a ^ 1 ≡ a
pow_one a = pow-suc a zero ∙ rw (pow-zero a) (omega arith)

-- ---- one side

module _ {F : Factor} where
  pub at_most_of_le : {x y : ℕ} (c : ℕ) → x ≤ y → AtMost F c x y
  at_most_of_le c h = record { bound = mul-le-mul h (pow-le-pow_left F.at_least_1 c) }

  pub at_most_trans : {c d x y z : ℕ} → AtMost F c x y → AtMost F d y z → AtMost F (c + d) x z
  at_most_trans {c} {d} h k =
      record { bound = rw (pow-add F.den c d, pow-add F.num c d) (omega (arith, mul-le-mul_right (F.den ^ d) h.bound, mul-le-mul_right (F.num ^ c) k.bound)) }

  pub at_most_mul : {c d x y u v : ℕ} → AtMost F c x y → AtMost F d u v → AtMost F (c + d) (x * u) (y * v)
  at_most_mul {c} {d} h k = record { bound = rw (pow-add F.den c d, pow-add F.num c d) (omega (arith, mul-le-mul h.bound k.bound)) }

  pub at_most_add : {c x y u v : ℕ} → AtMost F c x y → AtMost F c u v → AtMost F c (x + u) (y + v)
  at_most_add h k = omega arith

  pub at_most_scale : {c x y : ℕ} (k : ℕ) → AtMost F c x y → AtMost F c (k * x) (k * y)
  at_most_scale k h = omega (arith, mul-le-mul_left k h.bound)

  pub at_most_cancel : {c k x y : ℕ} → zero < k → AtMost F c (k * x) (k * y) → AtMost F c x y
  at_most_cancel {c} {k} {x} {y} p h = record { bound = le_of_mul-le-mul_left {k = k} (omega arith) p }

  -- more factors allow more
  pub at_most_more : {c d x y : ℕ} → c ≤ d → AtMost F c x y → AtMost F d x y
  at_most_more {c} {d} {x} {y} l h = subst (λ e. AtMost F e x y) (add-sub_of_le l) (at_most_trans h (at_most_of_le (d - c) (le_refl y)))

  -- ---- both sides

  -- equal numbers, at any count
  pub near_same : {x : ℕ} (c : ℕ) → Near F c x x
  near_same c = record { under = at_most_of_le c (le_refl _); over = at_most_of_le c (le_refl _) }

  pub near_sym : {c x y : ℕ} → Near F c x y → Near F c y x
  near_sym h = record { under = h.over; over = h.under }

  pub near_trans : {c d x y z : ℕ} → Near F c x y → Near F d y z → Near F (c + d) x z
  near_trans {c} {d} h k = record { under = at_most_trans h.under k.under; over = rw (add_comm c d) (at_most_trans k.over h.over) }

  pub near_more : {c d x y : ℕ} → c ≤ d → Near F c x y → Near F d x y
  near_more l h = record { under = at_most_more l h.under; over = at_most_more l h.over }

  pub near_mul : {c d x y u v : ℕ} → Near F c x y → Near F d u v → Near F (c + d) (x * u) (y * v)
  near_mul h k = record { under = at_most_mul h.under k.under; over = at_most_mul h.over k.over }

  pub near_add : {c x y u v : ℕ} → Near F c x y → Near F c u v → Near F c (x + u) (y + v)
  near_add h k = record { under = at_most_add h.under k.under; over = at_most_add h.over k.over }

  pub near_sum : {c : ℕ} (n : ℕ) {f g : ℕ → ℕ} → ((i : ℕ) → i < n → Near F c (f i) (g i)) → Near F c (sum n f) (sum n g)
  unfolding sum
  near_sum {c} zero h = near_same c
  near_sum (suc n) h = near_add (h zero (omega arith)) (near_sum n (λ i l. h (suc i) (suc-le-suc l)))

  -- a common factor, put on and taken off
  pub near_scale : {c x y : ℕ} (k : ℕ) → Near F c x y → Near F c (k * x) (k * y)
  near_scale k h = record { under = at_most_scale k h.under; over = at_most_scale k h.over }

  pub near_cancel : {c k x y : ℕ} → zero < k → Near F c (k * x) (k * y) → Near F c x y
  near_cancel p h = record { under = at_most_cancel p h.under; over = at_most_cancel p h.over }

  -- A quotient is told by its product: q stands for y / t where q * t lies near y. It carries the errors of the dividend and the divisor.
  pub near_quot : {a c d s t x y : ℕ} (q : ℕ) → Near F a (q * s) x → Near F c x y → Near F d s t → Near F (a + c + d) (q * t) y
  near_quot q h k l = near_more (omega arith) (near_trans (near_scale q (near_sym l)) (near_trans h k))

  -- what is near zero is zero
  pub near_zero : {c x : ℕ} → Near F c x zero → x ≡ zero
  near_zero {c} {x} h = omega (arith, h.under.bound, le-mul_of_pos_right x (one-le-pow c F.den F.den_pos))

  -- the same statement of equal numbers: both equations are a goal for `omega arith`
  pub near_eq : {c x y u v : ℕ} → Near F c x y → u ≡ x → v ≡ y → Near F c u v
  near_eq {c} h p q = subst₂ (λ a b. Near F c a b) (sym p) (sym q) h

  pub near_pos : {c x y : ℕ} → Near F c x y → zero < y → zero < x
  near_pos {x = zero} h p = omega (arith, near_zero (near_sym h))
  near_pos {x = suc x} h p = omega arith

  pub near_one : {x y : ℕ} → x * F.den ≤ y * F.num → y * F.den ≤ x * F.num → Near F 1 x y
  near_one h k = record { under = record { bound = simp pow_one h }; over = record { bound = simp pow_one k } }
