-- Every state reaches a state that settles, and what a settled state reaches is a closed set: so every chain of one state or more has
-- a closed set, and every state reaches one. Assumes nothing but a test that tells which state reaches which.
use mathlib.Core.Bool.{Bool, true, false, not, ◌||◌, false≢true}
use mathlib.Core.Logic.{◌⊎◌, inl, inr, ⊎_elim, ◌↔◌}
use mathlib.Core.Path.{◌≡◌, refl, sym, ◌∙◌}
use Prim.Native.Nat.{ℕ, zero, suc, ◌≤◌, ◌<◌, zero-le, suc-le-suc}
use native.Mathlib.Omega.{arith}
use Rattle.basics.specs.Sum.{sum}
use Rattle.basics.proofs.SumLaws.{sum_mono}
use Rattle.markov.specs.Chain.{Rates, Reaches, here}
use Rattle.basics.specs.Below.{count}
use Rattle.basics.proofs.BoolLaws.{all_at, all_of, all_or_not}
use Rattle.markov.specs.Closed.{Closed, OnlyClosed, HasAnswer, size}
use Rattle.reach.specs.ClosedSets.{settles}
use Rattle.markov.proofs.ClosedLaws.{reaches_trans}

-- the test tells which state below n reaches which
pub record Tells (n : ℕ) (rate : Rates) (reached : ℕ → ℕ → Bool) : Type 0 where
  pub iff : (i j : ℕ) → i < n → j < n → (reached i j ≡ true) ↔ Reaches n rate i j

-- "if a then b" as a test
implies : (a b : Bool) → (not a || b) ≡ true → a ≡ true → b ≡ true
implies true b e t = e
implies false b e t = absurd (false≢true t)

implied : (a b : Bool) → (a ≡ true → b ≡ true) → (not a || b) ≡ true
implied true b h = h refl
implied false b h = refl

not_implied : (a b : Bool) → (not a || b) ≡ false → (a ≡ true) × (b ≡ false)
not_implied true b e = (refl, e)
not_implied false b e = absurd (false≢true (sym e))

-- a set within another, without a state of it, is smaller
count_le : (a b : Bool) → (a ≡ true → b ≡ true) → count a ≤ count b
unfolding count
count_le true b h = rw (h refl) (omega arith)
count_le false b h = zero-le

size_less : (n : ℕ) (a b : ℕ → Bool) → ((i : ℕ) → i < n → a i ≡ true → b i ≡ true) → (k : ℕ) → k < n → a k ≡ false → b k ≡ true → size n a < size n b
unfolding size sum count
size_less zero a b h k l e f = absurd (omega arith)
size_less (suc n) a b h zero l e f =
    rw (e, f) (omega (arith, sum_mono n {f = λ i. count (a (suc i))} {h = λ i. count (b (suc i))} (λ i l. count_le _ _ (h (suc i) (suc-le-suc l)))))
size_less (suc n) a b h (suc k) l e f =
    omega (arith, count_le _ _ (h zero (omega arith)), size_less n (λ i. a (suc i)) (λ i. b (suc i)) (λ i l. h (suc i) (suc-le-suc l)) k (omega arith) e f)

module _ {n : ℕ} {rate : Rates} {reached : ℕ → ℕ → Bool} (T : Tells n rate reached) where
  -- what settling says
  pub settled_back : (i j : ℕ) → i < n → j < n → settles n reached i ≡ true → Reaches n rate i j → Reaches n rate j i
  unfolding settles
  settled_back i j hi hj s r = (T.iff j i hj hi).0 (implies _ _ (all_at n _ s j hj) ((T.iff i j hi hj).1 r))

  pub settles_of : (i : ℕ) → i < n → ((j : ℕ) → j < n → Reaches n rate i j → Reaches n rate j i) → settles n reached i ≡ true
  unfolding settles
  settles_of i hi h = all_of n _ (λ j hj. implied _ _ (λ t. (T.iff j i hj hi).1 (h j hj ((T.iff i j hi hj).0 t))))

  -- what a settled state reaches is closed
  pub settled_closed : (i : ℕ) → i < n → settles n reached i ≡ true → Closed n rate (reached i)
  settled_closed i hi s = record {
    state = i;
    below = hi;
    inside = (T.iff i i hi hi).1 here;
    others = λ j k hj hk t u. reaches_trans (settled_back i j hi hj s ((T.iff i j hi hj).0 t)) ((T.iff i k hi hk).0 u);
    nothing_outside = λ j k hj hk t r. (T.iff i k hi hk).1 (reaches_trans ((T.iff i j hi hj).0 t) r);
  }

  -- every state of a closed set settles
  pub closed_settles : {set : ℕ → Bool} → Closed n rate set → (i : ℕ) → i < n → set i ≡ true → settles n reached i ≡ true
  closed_settles c i hi t = settles_of i hi (λ j hj r. c.others j i hj hi (c.nothing_outside i j hi hj t r) t)

  -- a state that does not settle reaches one that reaches fewer states
  settled_or_fewer : (i : ℕ) → i < n
      → (settles n reached i ≡ true) ⊎ ((j : ℕ) × (j < n) × Reaches n rate i j × (size n (reached j) < size n (reached i)))
  unfolding settles
  settled_or_fewer i hi = ⊎_elim inl (λ h. inr (fewer h.0 h.1 (not_implied _ _ h.2))) (all_or_not n (λ j. not (reached i j) || reached j i))
    where
      fewer : (j : ℕ) → j < n → (reached i j ≡ true) × (reached j i ≡ false)
          → (j : ℕ) × (j < n) × Reaches n rate i j × (size n (reached j) < size n (reached i))
      fewer j hj e =
          let r = (T.iff i j hi hj).0 e.0 in
          (j, hj, r, size_less n (reached j) (reached i) (λ k hk t. (T.iff i k hi hk).1 (reaches_trans r ((T.iff j k hj hk).0 t))) i hi e.1 ((T.iff i i hi hi).1 here))

  -- so every state reaches one that settles
  settled_within : (most i : ℕ) → i < n → size n (reached i) < most → (s : ℕ) × (s < n) × Reaches n rate i s × (settles n reached s ≡ true)
  settled_within zero i hi l = absurd (omega arith)
  settled_within (suc most) i hi l = ⊎_elim
      (λ s. (i, hi, here, s))
      (λ h. let t = settled_within most h.0 h.1 (omega (arith, h.3)) in (t.0, t.1, reaches_trans h.2 t.2, t.3))
      (settled_or_fewer i hi)

  pub reaches_settled : (i : ℕ) → i < n → (s : ℕ) × (s < n) × Reaches n rate i s × (settles n reached s ≡ true)
  reaches_settled i hi = settled_within (suc (size n (reached i))) i hi (omega arith)

  -- EVERY STATE REACHES A CLOSED SET
  pub reaches_closed : (i : ℕ) → i < n → (set : ℕ → Bool) × (c : Closed n rate set) × Reaches n rate i c.state
  unfolding settled_closed
  reaches_closed i hi = let s = reaches_settled i hi in (reached s.0, settled_closed s.0 s.1 s.3, s.2)

  -- so every state reaches the only one
  pub reaches_only : {set : ℕ → Bool} → (o : OnlyClosed n rate set) → (i : ℕ) → i < n → Reaches n rate i o.closed.state
  reaches_only {set} o i hi =
      let s = reaches_settled i hi in
      let t : set s.0 ≡ true = sym (o.only (reached s.0) (settled_closed s.0 s.1 s.3) s.0 s.1) ∙ (T.iff s.0 s.0 s.1 s.1).1 here in
      reaches_trans s.2 (o.closed.others s.0 o.closed.state s.1 o.closed.below t o.closed.inside)

  -- a chain of one state or more has an answer unless two closed sets differ
  pub has_answer_unless : zero < n
      → ((a b : ℕ → Bool) → Closed n rate a → Closed n rate b → (i : ℕ) → i < n → a i ≡ b i) → HasAnswer n rate
  has_answer_unless l same =
      let s = reaches_closed zero l in
      record { set = s.0; one = record { closed = s.1; only = λ other o. same other s.0 o s.1 } }
