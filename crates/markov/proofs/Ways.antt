-- Sums over all ways: equal terms, a common factor, a sum inside, and the move of one state split off. Assumes nothing.
use mathlib.Core.Path.{◌≡◌, refl, sym, ◌∙◌, ap, fun_ext}
use mathlib.Core.Logic.{◌≢◌}
use Prim.Native.Nat.{ℕ, zero, suc, ◌*◌, ◌≤◌, ◌<◌}
use native.Mathlib.Omega.{arith}
use native.Mathlib.Decide.{ℕ_discrete}
use native.Mathlib.Nat.{zero-mul}
use lib.Dec.{eqb}
use borrow.Author.Tests.{eq-eqb, ne_eqb}
use Rattle.basics.specs.Sum.{sum}
use Rattle.basics.proofs.SumLaws.{sum_cong, sum_mono, sum_swap, mul_sum}
use Rattle.basics.specs.Below.{count, put}
use Rattle.markov.specs.Weight.{over}
use Rattle.basics.proofs.TermLaws.{sum_mul, sum_only, sum_at}

-- a way of the states below m among the states below n
abbrev pub Below : ℕ → ℕ → (ℕ → ℕ) → Type 0
Below m n f = (v : ℕ) → v < m → f v < n

-- ---- one move put in

pub put_at : (f : ℕ → ℕ) (m k v : ℕ) → v ≡ m → put f m k v ≡ k
unfolding put
put_at f m k v e = rw (eq-eqb v m e)

put_self : (f : ℕ → ℕ) (m k : ℕ) → put f m k m ≡ k
put_self f m k = put_at f m k m refl

pub put_off : (f : ℕ → ℕ) (m k v : ℕ) → v ≢ m → put f m k v ≡ f v
unfolding put
put_off f m k v d = rw (ne_eqb v m d)

put_comm : (f : ℕ → ℕ) (m k j x : ℕ) → j ≢ m → put (put f j x) m k ≡ put (put f m k) j x
put_comm f m k j x d = fun_ext (λ v. go v (ℕ_discrete v m) (ℕ_discrete v j))
  where
    go : (v : ℕ) → Dec (v ≡ m) → Dec (v ≡ j) → put (put f j x) m k v ≡ put (put f m k) j x v
    go v (yes e) (yes e') = absurd (d (sym e' ∙ e))
    go v (yes e) (no d') = put_at (put f j x) m k v e ∙ sym (put_at f m k v e) ∙ sym (put_off (put f m k) j x v d')
    go v (no d'') (yes e') = put_off (put f j x) m k v d'' ∙ put_at f j x v e' ∙ sym (put_at (put f m k) j x v e')
    go v (no d'') (no d') =
        put_off (put f j x) m k v d'' ∙ put_off f j x v d' ∙ sym (put_off f m k v d'') ∙ sym (put_off (put f m k) j x v d')

put_below : (m n k : ℕ) (f : ℕ → ℕ) → k < n → Below m n f → Below (suc m) n (put f m k)
put_below m n k f hk hf v hv = go (ℕ_discrete v m)
  where
    go : Dec (v ≡ m) → put f m k v < n
    go (yes e) = rw (put_at f m k v e) hk
    go (no d) = rw (put_off f m k v d) (hf v (omega arith))

-- ---- sums over all ways

pub over_cong : (m n : ℕ) (F G : (ℕ → ℕ) → ℕ) → ((f : ℕ → ℕ) → Below m n f → F f ≡ G f) → over m n F ≡ over m n G
unfolding over
over_cong zero n F G h = h (λ v. 0) (λ v l. omega arith)
over_cong (suc m) n F G h =
    sum_cong n (λ k hk. over_cong m n (λ f. F (put f m k)) (λ f. G (put f m k)) (λ f hf. h (put f m k) (put_below m n k f hk hf)))

pub over_le : (m n : ℕ) (F G : (ℕ → ℕ) → ℕ) → ((f : ℕ → ℕ) → Below m n f → F f ≤ G f) → over m n F ≤ over m n G
unfolding over
over_le zero n F G h = h (λ v. 0) (λ v l. omega arith)
over_le (suc m) n F G h =
    sum_mono n (λ k hk. over_le m n (λ f. F (put f m k)) (λ f. G (put f m k)) (λ f hf. h (put f m k) (put_below m n k f hk hf)))

pub over_mul : (m n c : ℕ) (F : (ℕ → ℕ) → ℕ) → over m n (λ f. F f * c) ≡ over m n F * c
unfolding over
over_mul zero n c F = refl
over_mul (suc m) n c F =
    sum_cong n (λ k hk. over_mul m n c (λ f. F (put f m k))) ∙ sum_mul n c (λ k. over m n (λ f. F (put f m k)))

mul_over : (m n c : ℕ) (F : (ℕ → ℕ) → ℕ) → over m n (λ f. c * F f) ≡ c * over m n F
unfolding over
mul_over zero n c F = refl
mul_over (suc m) n c F =
    sum_cong n (λ k hk. mul_over m n c (λ f. F (put f m k))) ∙ mul_sum n c (λ k. over m n (λ f. F (put f m k)))

pub over_sum : (m n p : ℕ) (F : ℕ → (ℕ → ℕ) → ℕ) → sum p (λ i. over m n (λ f. F i f)) ≡ over m n (λ f. sum p (λ i. F i f))
unfolding over
over_sum zero n p F = refl
over_sum (suc m) n p F =
    sum_swap p n (λ i k. over m n (λ f. F i (put f m k)))
    ∙ sum_cong n (λ k hk. over_sum m n p (λ i f. F i (put f m k)))

-- the move of the last state split off: G does not depend on it
over_top : (m n c : ℕ) → c < n → (G : (ℕ → ℕ) → ℕ) → ((f : ℕ → ℕ) (x : ℕ) → G (put f m x) ≡ G f) → (h : ℕ → ℕ)
    → over (suc m) n (λ f. G f * h (f m)) ≡ over (suc m) n (λ f. count (eqb (f m) c) * G f) * sum n h
unfolding over
over_top m n c hc G free h =
    sum_cong n (λ k hk. simp (free, put_self) (over_mul m n (h k) G))
    ∙ mul_sum n (over m n G) h
    ∙ ap (λ (x : ℕ). x * sum n h) (sym (sum_cong n (λ k hk. simp (free, put_self) (mul_over m n (count (eqb k c)) G)) ∙ sum_at n c (λ k. over m n G) hc))

-- the move of any state j split off: put at one state c, and summed by itself
pub over_split : (m n j c : ℕ) → j < m → c < n → (G : (ℕ → ℕ) → ℕ) → ((f : ℕ → ℕ) (x : ℕ) → G (put f j x) ≡ G f) → (h : ℕ → ℕ)
    → over m n (λ f. G f * h (f j)) ≡ over m n (λ f. count (eqb (f j) c) * G f) * sum n h
unfolding over
over_split zero n j c hj hc G free h = omega arith
over_split (suc m) n j c hj hc G free h =
    go (ℕ_discrete j m)
    (λ l k. over_split m n j c l hc (λ f. G (put f m k)) (λ f x. ap G (put_comm f m k j x (omega arith)) ∙ free (put f m k) x) h)
  where
    go : Dec (j ≡ m)
        → (j < m → (k : ℕ) → over m n (λ f. G (put f m k) * h (f j)) ≡ over m n (λ f. count (eqb (f j) c) * G (put f m k)) * sum n h)
        → over (suc m) n (λ f. G f * h (f j)) ≡ over (suc m) n (λ f. count (eqb (f j) c) * G f) * sum n h
    go (yes e) ih = rw e (over_top m n c hc G (rw e at free) h)
    go (no d) ih =
        simp put_off
        (sum_cong n (λ k hk. ih (omega arith) k)
        ∙ sum_mul n (sum n h) (λ k. over m n (λ f. count (eqb (f j) c) * G (put f m k))))

-- all terms are 0 but that of one way φ
pub over_only : (m n c : ℕ) (φ : ℕ → ℕ) (F : (ℕ → ℕ) → ℕ) → Below m n φ → ((f : ℕ → ℕ) (v : ℕ) → v < m → f v ≢ φ v → F f ≡ 0)
    → ((f : ℕ → ℕ) → ((v : ℕ) → v < m → f v ≡ φ v) → F f ≡ c) → over m n F ≡ c
unfolding over
over_only zero n c φ F hφ none some = some (λ v. 0) (λ v l. absurd (omega arith))
over_only (suc m) n c φ F hφ none some =
    sum_only n (φ m) {f = λ k. over m n (λ f. F (put f m k))} (hφ m (omega arith))
    (λ k hk d. over_cong m n _ (λ f. 0) (λ f hf. none (put f m k) m (omega arith) (λ e. d (sym (put_at f m k m refl) ∙ e))) ∙ mul_over m n 0 (λ f. 0) ∙ zero-mul (over m n (λ f. 0)))
    ∙ over_only m n c φ (λ f. F (put f m (φ m))) (λ v l. hφ v (omega arith))
    (λ f v hv d. none (put f m (φ m)) v (omega arith) (λ e. d (sym (put_off f m (φ m) v (omega arith)) ∙ e)))
    (λ f h. some (put f m (φ m)) (λ v hv. go f h v hv (ℕ_discrete v m)))
  where
    go : (f : ℕ → ℕ) → ((v : ℕ) → v < m → f v ≡ φ v) → (v : ℕ) → v < suc m → Dec (v ≡ m) → put f m (φ m) v ≡ φ v
    go f h v hv (yes e) = put_at f m (φ m) v e ∙ ap φ (sym e)
    go f h v hv (no d) = put_off f m (φ m) v d ∙ h v (omega arith)
