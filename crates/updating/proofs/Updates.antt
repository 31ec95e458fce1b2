-- Rows updated one after another, and why a row whose entry in the pivot's column is Zero stays as it is. Assumes nothing.
use mathlib.Core.Logic.{◌≢◌}
use mathlib.Core.Bool.{true}
use mathlib.Core.Path.{◌≡◌, refl, sym, ap, ap₂, subst⁻¹, ◌∙◌}
use Prim.Native.Nat.{ℕ, ◌+◌, ◌≤◌, ◌<◌}
use native.Mathlib.Decide.{dec_lt}
use native.Mathlib.Omega.{arith}
use Rattle.scaled.specs.declared.Scaled.{Scaled}
use Rattle.scaled.specs.Scaled.{zero_number, is_zero}
use Rattle.scaled.proofs.Laws.{zero_of_test, sum_zero_right, product_zero_left}
use Rattle.kernel.specs.Numbers.{Fit, settle, plus, times}
use Rattle.kernel.specs.Slices.{Slices, entry_at}
use Rattle.updating.specs.Inner.{updated, Ready, Updated}
use Rattle.kernel.proofs.Entries.{kept_none, kept_on}
use Rattle.kernel.proofs.Operands.{plus_both, times_both}

-- ---- a product with Zero adds nothing

idle : (a t x : Scaled) → Fit (plus x (times a t)) → is_zero a ≡ true → plus x (times a t) ≡ x
unfolding plus times
idle a t x f z =
    let p = plus_both x (times a t) f in
    let q = times_both a t p.1 in
    let w : a ≡ zero_number = zero_of_test a q.0 z in
    ap (λ (y : Scaled). plus x (times y t)) w ∙ ap (λ (y : Scaled). plus x y) (ap settle (product_zero_left t q.1)) ∙ ap settle (sum_zero_right x p.0)

pub row_idle : {n k i : ℕ} {s : Slices} → i < n → Ready n k i s → is_zero (entry_at n s i k) ≡ true → Updated n k i (i + 1) s s
row_idle {n} {k} {i} {s} h r z = record {
  kept = kept_none s;
  done = λ a b l g hb hn d.
      let q : a ≡ i = omega arith in
      sym (idle (entry_at n s a k) (entry_at n s k b) (entry_at n s a b) (r.fits a b l (omega arith) hb hn d) (rw q z));
  above = λ a b l ha hb. refl;
  below = λ a b l ha hb. refl;
  columns = λ a b ha l hb. refl;
}

-- ---- row after row

pub updated_go : {n k from i to : ℕ} {s s₁ s₂ : Slices} → k < from → from ≤ i → i ≤ to → to ≤ n → Updated n k from i s s₁ → Updated n k i to s₁ s₂
    → Updated n k from to s s₂
updated_go {n} {k} {from} {i} {to} {s} {s₁} {s₂} hk hf hi ht p q = record {
  kept = kept_on p.kept q.kept;
  done = λ a b l g hb hn d. by_row a b l g hb hn d (dec_lt a i);
  above = λ a b l ha hb. q.above a b (omega arith) ha hb ∙ p.above a b l ha hb;
  below = λ a b l ha hb. q.below a b l ha hb ∙ p.below a b (omega arith) ha hb;
  columns = λ a b ha l hb. q.columns a b ha l hb ∙ p.columns a b ha l hb;
}
  where
    by_row : (a b : ℕ) → from ≤ a → a < to → k < b → b < n → a ≢ b → Dec (a < i) → entry_at n s₂ a b ≡ updated n s k a b
    by_row a b l g hb hn d (yes z) = q.above a b z (omega arith) hn ∙ p.done a b l z hb hn d
    by_row a b l g hb hn d (no z) =
        q.done a b (omega arith) g hb hn d
        ∙ ap₂ plus (p.below a b (omega arith) (omega arith) hn)
        (ap₂ times (p.below a k (omega arith) (omega arith) (omega arith)) (p.above k b hk (omega arith) hn))

-- the rows that are left are as they were
pub ready_on : {n k from i : ℕ} {s s₁ : Slices} → k < from → from ≤ i → Ready n k from s → Updated n k from i s s₁ → Ready n k i s₁
ready_on {n} {k} hk hf r p = record {
  fits = λ a b l ha hb hn d.
      subst⁻¹ Fit
      (ap₂ plus (p.below a b l ha hn) (ap₂ times (p.below a k l ha (omega arith)) (p.above k b hk (omega arith) hn)))
      (r.fits a b (omega arith) ha hb hn d);
}
