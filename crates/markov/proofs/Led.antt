-- Which states a way leads to which: `led` and `leads` against iteration, and the count behind the balance. Assumes nothing.
use mathlib.Core.Path.{◌≡◌, refl, sym, ◌∙◌, ap}
use mathlib.Core.Logic.{◌≢◌, ◌⊎◌, inl, inr}
use mathlib.Core.Bool.{Bool, true, false, ◌||◌, true≢false}
use Prim.Native.Nat.{ℕ, zero, suc, ◌+◌, ◌*◌, ◌-◌, ◌≤◌, ◌<◌}
use native.Mathlib.Omega.{arith}
use native.Mathlib.Decide.{ℕ_discrete, dec_le}
use native.Mathlib.Nat.{mul-zero, zero-add}
use lib.Dec.{eqb}
use borrow.Author.Tests.{eq-eqb, ne_eqb, eqb-true}
use Rattle.basics.specs.Sum.{sum}
use Rattle.basics.specs.Below.{count, put}
use Rattle.basics.proofs.BoolLaws.{all_at, all_of}
use Rattle.markov.specs.Weight.{led, leads}
use Rattle.basics.proofs.TermLaws.{sum_none, sum_only}
use Rattle.markov.proofs.Ways.{Below, put_at, put_off}

-- ---- iteration

-- f, t times
unfoldable pub iter : (ℕ → ℕ) → ℕ → ℕ → ℕ
iter f zero v = v
iter f (suc t) v = iter f t (f v)

iter_add : (f : ℕ → ℕ) (s t v : ℕ) → iter f (s + t) v ≡ iter f t (iter f s v)
unfolding iter
iter_add f zero t v = ap (λ (x : ℕ). iter f x v) (zero-add t)
iter_add f (suc s) t v = ap (λ (x : ℕ). iter f x v) {x = suc s + t} {y = suc (s + t)} (omega arith) ∙ iter_add f s t (f v)

iter_out : (f : ℕ → ℕ) (t v : ℕ) → iter f t (f v) ≡ f (iter f t v)
unfolding iter
iter_out f zero v = refl
iter_out f (suc t) v = iter_out f t (f v)

iter_below : (n : ℕ) (f : ℕ → ℕ) → Below n n f → (t v : ℕ) → v < n → iter f t v < n
unfolding iter
iter_below n f hf zero v hv = hv
iter_below n f hf (suc t) v hv = iter_below n f hf t (f v) (hf v hv)

iter_times : (f : ℕ → ℕ) (p v : ℕ) → iter f p v ≡ v → (k : ℕ) → iter f (p * k) v ≡ v
unfolding iter
iter_times f p v e zero = ap (λ (x : ℕ). iter f x v) (mul-zero p)
iter_times f p v e (suc k) =
    ap (λ (x : ℕ). iter f x v) {x = p * suc k} {y = p + p * k} (omega arith)
    ∙ iter_add f p (p * k) v ∙ ap (iter f (p * k)) e ∙ iter_times f p v e k

iter_fixed : (f : ℕ → ℕ) (t v : ℕ) → f v ≡ v → iter f t v ≡ v
unfolding iter
iter_fixed f zero v e = refl
iter_fixed f (suc t) v e = ap (iter f t) e ∙ iter_fixed f t v e

-- ---- among n + 1 values below n, two are equal

abbrev Found : ℕ → (ℕ → ℕ) → ℕ → Type 0
Found n g x = (a : ℕ) × (a < n) × (g a ≡ x)

abbrev Nowhere : ℕ → (ℕ → ℕ) → ℕ → Type 0
Nowhere n g x = (a : ℕ) → a < n → g a ≢ x

find : (n : ℕ) (g : ℕ → ℕ) (x : ℕ) → Found n g x ⊎ Nowhere n g x
find zero g x = inr (λ a l. omega arith)
find (suc n) g x = go (ℕ_discrete (g n) x) (find n g x)
  where
    go : Dec (g n ≡ x) → Found n g x ⊎ Nowhere n g x → Found (suc n) g x ⊎ Nowhere (suc n) g x
    go (yes e) o = inl (n, omega arith, e)
    go (no d) (inl r) = inl (r.0, omega arith, r.2)
    go (no d) (inr h) = inr (λ a l. last a l (ℕ_discrete a n))
      where
        last : (a : ℕ) → a < suc n → Dec (a ≡ n) → g a ≢ x
        last a l (yes e) q = d (ap g (sym e) ∙ q)
        last a l (no d') q = h a (omega arith) q

abbrev Twice : ℕ → (ℕ → ℕ) → Type 0
Twice n g = (a : ℕ) × (b : ℕ) × (a < b) × (b ≤ n) × (g a ≡ g b)

-- g, with x in place of the value n
replaced : ℕ → ℕ → (ℕ → ℕ) → ℕ → ℕ
replaced n x g k = put (λ y. y) n x (g k)

module _ (n : ℕ) (g : ℕ → ℕ) (h : (k : ℕ) → k ≤ suc n → g k < suc n) (nowhere : Nowhere (suc n) g (g (suc n))) where
  g' : ℕ → ℕ
  g' = replaced n (g (suc n)) g

  replaced_at : (k : ℕ) → g k ≡ n → g' k ≡ g (suc n)
  unfolding g' replaced
  replaced_at k e = put_at (λ y. y) n (g (suc n)) (g k) e

  replaced_off : (k : ℕ) → g k ≢ n → g' k ≡ g k
  unfolding g' replaced
  replaced_off k d = put_off (λ y. y) n (g (suc n)) (g k) d

  replaced_below : (k : ℕ) → k ≤ n → g' k < n
  replaced_below k l = go (ℕ_discrete (g k) n)
    where
      go : Dec (g k ≡ n) → g' k < n
      go (yes e) = rw (replaced_at k e) (omega (arith, h (suc n) (omega arith), nowhere k (omega arith)))
      go (no d) = rw (replaced_off k d) (omega (arith, h k (omega arith)))

  replaced_twice : Twice n g' → Twice (suc n) g
  replaced_twice t = go (ℕ_discrete (g a) n) (ℕ_discrete (g b) n)
    where
      a : ℕ
      a = t.0

      b : ℕ
      b = t.1

      go : Dec (g a ≡ n) → Dec (g b ≡ n) → Twice (suc n) g
      go (yes e) (yes e') = (a, b, t.2, omega arith, e ∙ sym e')
      go (yes e) (no d) = absurd (nowhere b (omega arith) (sym (replaced_off b d) ∙ sym t.4 ∙ replaced_at a e))
      go (no d) (yes e) = absurd (nowhere a (omega arith) (sym (replaced_off a d) ∙ t.4 ∙ replaced_at b e))
      go (no d) (no d') = (a, b, t.2, omega arith, sym (replaced_off a d) ∙ t.4 ∙ replaced_off b d')

pigeonhole : (n : ℕ) (g : ℕ → ℕ) → ((k : ℕ) → k ≤ n → g k < n) → Twice n g
unfolding g'
pigeonhole zero g h = absurd (omega (arith, h 0 (omega arith)))
pigeonhole (suc n) g h = go (find (suc n) g (g (suc n))) (pigeonhole n (replaced n (g (suc n)) g))
  where
    go : Found (suc n) g (g (suc n)) ⊎ Nowhere (suc n) g (g (suc n))
        → (((k : ℕ) → k ≤ n → replaced n (g (suc n)) g k < n) → Twice n (replaced n (g (suc n)) g)) → Twice (suc n) g
    go (inl r) ih = (r.0, suc n, r.1, omega arith, r.2)
    go (inr nowhere) ih = replaced_twice n g h nowhere (ih (replaced_below n g h nowhere))

-- ---- led in any number of moves is led in n

abbrev pub Arrives : (ℕ → ℕ) → ℕ → ℕ → Type 0
Arrives f i v = (t : ℕ) × (iter f t v ≡ i)

led_iter : (t : ℕ) (f : ℕ → ℕ) (i v : ℕ) → led t f i v ≡ true → Arrives f i v
unfolding led iter
led_iter zero f i v e = (0, eqb-true v i e)
led_iter (suc t) f i v e = go (ℕ_discrete v i) (led_iter t f i (f v))
  where
    go : Dec (v ≡ i) → (led t f i (f v) ≡ true → Arrives f i (f v)) → Arrives f i v
    go (yes q) ih = (0, q)
    go (no d) ih = let r = ih (rw (ne_eqb v i d) at e) in (suc r.0, r.1)

iter_led : (t s : ℕ) (f : ℕ → ℕ) (i v : ℕ) → s ≤ t → iter f s v ≡ i → led t f i v ≡ true
unfolding led iter
iter_led zero zero f i v l e = eq-eqb v i e
iter_led zero (suc s) f i v l e = absurd (omega arith)
iter_led (suc t) zero f i v l e = rw (eq-eqb v i e)
iter_led (suc t) (suc s) f i v l e = go (eqb v i) (iter_led t s f i (f v) (omega arith) e)
  where
    go : (b : Bool) → led t f i (f v) ≡ true → (b || led t f i (f v)) ≡ true
    go true q = refl
    go false q = q

-- more than n moves meet a state twice, and can be cut short there
shorter : (n : ℕ) (f : ℕ → ℕ) → Below n n f → (i v : ℕ) → v < n → (s : ℕ) → n < s → iter f s v ≡ i → (s' : ℕ) × (s' < s) × (iter f s' v ≡ i)
shorter n f hf i v hv s l e =
    let t = pigeonhole n (λ k. iter f k v) (λ k l. iter_below n f hf k v hv) in
    let a = t.0 in
    let b = t.1 in (
      a + (s - b),
      omega arith,
      iter_add f a (s - b) v ∙ ap (iter f (s - b)) t.4 ∙ sym (iter_add f b (s - b) v)
          ∙ ap (λ (x : ℕ). iter f x v) {x = b + (s - b)} {y = s} (omega arith) ∙ e,
    )

short : (n : ℕ) (f : ℕ → ℕ) → Below n n f → (i v : ℕ) → v < n → (k s : ℕ) → s ≤ n + k → iter f s v ≡ i → led n f i v ≡ true
short n f hf i v hv zero s l e = iter_led n s f i v (omega arith) e
short n f hf i v hv (suc k) s l e = go (dec_le s n) (λ s' l' e'. short n f hf i v hv k s' l' e')
  where
    go : Dec (s ≤ n) → ((s' : ℕ) → s' ≤ n + k → iter f s' v ≡ i → led n f i v ≡ true) → led n f i v ≡ true
    go (yes q) ih = iter_led n s f i v q e
    go (no d) ih = let r = shorter n f hf i v hv s (omega arith) e in ih r.0 (omega arith) r.2

arrives_led : (n : ℕ) (f : ℕ → ℕ) → Below n n f → (i v : ℕ) → v < n → Arrives f i v → led n f i v ≡ true
arrives_led n f hf i v hv r = short n f hf i v hv r.0 r.0 (omega arith) r.1

-- ---- a way that leads every state to i

abbrev pub Leads : ℕ → (ℕ → ℕ) → ℕ → Type 0
Leads n f i = (v : ℕ) → v < n → Arrives f i v

leads_out : (n : ℕ) (f : ℕ → ℕ) (i : ℕ) → leads n f i ≡ true → Leads n f i
unfolding leads
leads_out n f i e v hv = led_iter n f i v (all_at n (λ v. led n f i v) e v hv)

pub leads_in : (n : ℕ) (f : ℕ → ℕ) (i : ℕ) → Below n n f → Leads n f i → leads n f i ≡ true
unfolding leads
leads_in n f i hf h = all_of n (λ v. led n f i v) (λ v hv. arrives_led n f hf i v hv (h v hv))

-- such a way moves every state but i away
pub leads_away : (n : ℕ) (f : ℕ → ℕ) (i : ℕ) → leads n f i ≡ true → (v : ℕ) → v < n → v ≢ i → v ≢ f v
leads_away n f i e v hv d q = let l = leads_out n f i e v hv in d (sym (iter_fixed f l.0 v (sym q)) ∙ l.1)

leads_next : (n : ℕ) (f : ℕ → ℕ) (i j : ℕ) → f i ≡ j → Leads n f i → Leads n f j
unfolding iter
leads_next n f i j e h v hv =
    let r = h v hv in
    (suc r.0, iter_out f r.0 v ∙ ap f r.1 ∙ e)

-- two states that f moves to j, and at which j arrives, are one: the state before j on its cycle
before : (f : ℕ → ℕ) (i i' j : ℕ) → f i ≡ j → f i' ≡ j → Arrives f i j → Arrives f i' j → i ≡ i'
unfolding iter
before f i i' j e e' r r' =
    let a = r.0 in
    let b = r'.0 in
    let p : iter f (suc a) j ≡ j = iter_out f a j ∙ ap f r.1 ∙ e in
    let p' : iter f (suc b) j ≡ j = iter_out f b j ∙ ap f r'.1 ∙ e' in
    let x : iter f (suc a * b + a) j ≡ i = iter_add f (suc a * b) a j ∙ ap (iter f a) (iter_times f (suc a) j p b) ∙ r.1 in
    let y : iter f (suc b * a + b) j ≡ i' = iter_add f (suc b * a) b j ∙ ap (iter f b) (iter_times f (suc b) j p' a) ∙ r'.1 in
    sym x ∙ ap (λ (t : ℕ). iter f t j) {x = suc a * b + a} {y = suc b * a + b} (omega arith) ∙ y

not_both : (a b : Bool) → (a ≡ true → b ≡ true → ⊥) → count a * count b ≡ 0
unfolding count
not_both true true h = absurd (h refl refl)
not_both true false h = refl
not_both false true h = refl
not_both false false h = refl

-- Of the states that f moves to j, f leads all states to exactly one if it leads all to j, and to none otherwise.
pub one_before : (n : ℕ) (f : ℕ → ℕ) (j : ℕ) → Below n n f → j < n
    → sum n (λ i. count (leads n f i) * count (eqb (f i) j)) ≡ count (leads n f j)
unfolding count
one_before n f j hf hj = go (leads n f j) refl
  where
    go : (b : Bool) → leads n f j ≡ b → sum n (λ i. count (leads n f i) * count (eqb (f i) j)) ≡ count b
    go false e =
        sum_none n
        (λ i hi. not_both (leads n f i) (eqb (f i) j)
        (λ p q. true≢false (sym (leads_in n f j hf (leads_next n f i j (eqb-true (f i) j q) (leads_out n f i p))) ∙ e)))
    go true e =
        let h = leads_out n f j e in
        let r = h (f j) (hf j hj) in
        let i = iter f r.0 j in
        let ei : f i ≡ j = sym (iter_out f r.0 j) ∙ r.1 in
        let hi : Leads n f i = λ v hv. let s = h v hv in (s.0 + r.0, iter_add f s.0 r.0 v ∙ ap (iter f r.0) s.1) in
        sum_only n i {f = λ k. count (leads n f k) * count (eqb (f k) j)} (iter_below n f hf r.0 j hj)
        (λ k hk d. not_both (leads n f k) (eqb (f k) j)
        (λ p q. d (before f k i j (eqb-true (f k) j q) ei (leads_out n f k p j hj) (hi j hj))))
        ∙ rw (leads_in n f i hf hi, eq-eqb (f i) j ei)
