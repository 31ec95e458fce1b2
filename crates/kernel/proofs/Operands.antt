-- The operations where the result is known to be a scaled number: then so are the operands, and what is answered is the result. Assumes nothing.
use mathlib.Core.Bool.{true, false≢true}
use mathlib.Core.Logic.{◌≢◌}
use mathlib.Core.Path.{◌≡◌, refl, sym, ap, ◌∙◌}
use Rattle.scaled.specs.declared.Scaled.{Scaled}
use Rattle.std.specs.Prelude.{Option, Some, None}
use Rattle.scaled.specs.Scaled.{zero_number, no_number, ranged_number, is_number, sum_of, product_of, quotient_of, sum_with}
use Rattle.scaled.proofs.Laws.{not_scaled, number_is, sum_operands, sum_right_refused, product_operands, quotient_operands, quotient_divisor}
use Rattle.kernel.specs.Numbers.{Fit, settle, plus, times, divided_by}

pub number_of : (x : Option Scaled) → Fit (settle x) → (r : Scaled) × (x ≡ Some r)
number_of (Some r) f = (r, refl)
number_of None f = absurd (false≢true (sym not_scaled ∙ f))

pub is_number_lem : (x : Option Scaled) → Fit (settle x) → is_number x ≡ true
is_number_lem x f = ap is_number (number_of x f).1

-- what is answered with e of any size is the result, where the result is a number
pub known : (r : Scaled) (x : Option Scaled) → ranged_number r ≡ x → Fit (settle x) → r ≡ settle x
known r x p f = let n = number_of x f in number_is r n.0 (p ∙ n.1) ∙ sym (ap settle n.1)

module _ (a b : Scaled) where
  pub plus_both : Fit (plus a b) → Fit a × Fit b
  unfolding plus
  plus_both f = let n = number_of (sum_of a b) f in sum_operands a b n.0 n.1

  pub times_both : Fit (times a b) → Fit a × Fit b
  unfolding times
  times_both f = let n = number_of (product_of a b) f in product_operands a b n.0 n.1

  -- and the divisor is not Zero
  pub over_both : Fit (divided_by a b) → Fit a × Fit b × (b ≢ zero_number)
  unfolding divided_by
  over_both f =
      let n = number_of (quotient_of a b) f in
      let o = quotient_operands a b n.0 n.1 in
      (o.0, o.1, quotient_divisor a b n.0 n.1)

pub settled_once : (x a t : Scaled) → settle (sum_with x (product_of a t)) ≡ plus x (times a t)
unfolding plus times
settled_once x a t = go (product_of a t)
  where
    go : (r : Option Scaled) → settle (sum_with x r) ≡ settle (sum_of x (settle r))
    go (Some p) = refl
    go None = sym (ap settle (sum_right_refused x no_number not_scaled))
