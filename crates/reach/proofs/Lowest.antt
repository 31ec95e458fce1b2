-- The computed places of refusal 6 are the lowest and the second lowest of the closed sets' lowest states, and where there is no second
-- one the chain has an answer: its set is what the first reaches. Assumes nothing but a test that tells which state reaches which.
use mathlib.Core.Bool.{Bool, true, not, false≢true}
use mathlib.Core.Logic.{◌⊎◌, inl, inr, ⊎_elim}
use mathlib.Core.Path.{◌≡◌, sym, ap, ◌∙◌}
use Prim.Native.Nat.{ℕ, zero, ◌+◌, ◌≤◌, ◌<◌}
use native.Mathlib.Decide.{dec_lt}
use native.Mathlib.Omega.{arith}
use borrow.Author.Tests.{not-true}
use Rattle.basics.specs.Below.{all}
use Rattle.basics.specs.First.{first}
use Rattle.basics.proofs.FirstLaws.{IsFirst, first_is}
use Rattle.markov.specs.Chain.{Rates, here}
use Rattle.basics.proofs.BoolLaws.{and_yes, both, not_so, all_at, all_of}
use Rattle.markov.specs.Closed.{Closed, OnlyClosed, HasAnswer}
use Rattle.reach.specs.ClosedSets.{is_lowest, first_lowest, second_lowest, lowest_set, LowestOf, TwoClosed}
use Rattle.markov.proofs.ClosedLaws.{closed_meet}
use Rattle.reach.proofs.Settled.{Tells, settled_closed, closed_settles, reaches_closed}

-- a search does not pass a number at which the test holds
first_at_most : {test : ℕ → Bool} {i e r : ℕ} → IsFirst test i e r → (j : ℕ) → i ≤ j → test j ≡ true → r ≤ j
first_at_most {r = r} h j l t = elim (dec_lt j r) [ yes m ↦ absurd (false≢true (sym (h.before j l m) ∙ t)) | no m ↦ omega arith ]

-- a closed set has a lowest state
pub closed_lowest : {n : ℕ} {rate : Rates} {set : ℕ → Bool} → Closed n rate set → LowestOf n rate set (first set 0 n)
closed_lowest {n} {rate} {set} c =
    let f : IsFirst set 0 n (first set 0 n) = first_is set 0 n (omega arith) in
    let l : first set 0 n < n = omega (arith, first_at_most f c.state (omega arith) c.inside, c.below) in
    record { closed = c; below = l; inside = f.found l; lower = λ j m. f.before j (omega arith) m }

module _ {n : ℕ} {rate : Rates} {reached : ℕ → ℕ → Bool} (T : Tells n rate reached) where
  -- the test tells the lowest states of the closed sets
  pub lowest_of : (i : ℕ) → i < n → is_lowest n reached i ≡ true → LowestOf n rate (reached i) i
  unfolding is_lowest
  lowest_of i hi t =
      let h = both (all i (λ j. not (reached i j))) _ t in
      record {
        closed = settled_closed T i hi h.1;
        below = hi;
        inside = (T.iff i i hi hi).1 here;
        lower = λ j l. not-true (reached i j) (all_at i _ h.0 j l);
      }

  pub of_lowest : {set : ℕ → Bool} (i : ℕ) → LowestOf n rate set i → is_lowest n reached i ≡ true
  unfolding is_lowest
  of_lowest {set} i h = and_yes _ _ (all_of i _ (λ j l. ap not (not_so _ (no_lower j l)))) (closed_settles T h.closed i h.below h.inside)
    where
      no_lower : (j : ℕ) → j < i → reached i j ≡ true → ⊥
      no_lower j l t =
          let hj : j < n = omega (arith, h.below) in
          false≢true (sym (h.lower j l) ∙ h.closed.nothing_outside i j h.below hj h.inside ((T.iff i j h.below hj).0 t))

  module _ (some : zero < n) where
    first_search : IsFirst (is_lowest n reached) 0 n (first_lowest n reached)
    unfolding first_lowest
    first_search = first_is (is_lowest n reached) 0 n (omega arith)

    pub first_below : first_lowest n reached < n
    first_below =
        let l = closed_lowest (reaches_closed T zero some).1 in
        omega (arith, first_at_most first_search _ (omega arith) (of_lowest _ l), l.below)

    second_search : IsFirst (is_lowest n reached) (first_lowest n reached + 1) n (second_lowest n reached)
    unfolding second_lowest
    second_search = first_is (is_lowest n reached) (first_lowest n reached + 1) n (omega (arith, first_below))

    -- the set that the first reaches is closed
    pub first_lowest_lem : LowestOf n rate (reached (first_lowest n reached)) (first_lowest n reached)
    first_lowest_lem = lowest_of (first_lowest n reached) first_below (first_search.found first_below)

    -- a closed set's lowest state is the first, or not below the second
    lowest_cases : {set : ℕ → Bool} (k : ℕ) → LowestOf n rate set k → (k ≡ first_lowest n reached) ⊎ (second_lowest n reached ≤ k)
    lowest_cases k h =
        let a : first_lowest n reached ≤ k = first_at_most first_search k (omega arith) (of_lowest k h) in
        elim (dec_lt (first_lowest n reached) k) [
          | yes m ↦ inr (first_at_most second_search k (omega arith) (of_lowest k h))
          | no m ↦ inl (omega arith)
        ]

    -- ---- refusal 6

    pub two_found : second_lowest n reached < n → TwoClosed n rate (first_lowest n reached) (second_lowest n reached)
    two_found l = record {
      one = reached (first_lowest n reached);
      one_lowest = first_lowest_lem;
      two = reached (second_lowest n reached);
      two_lowest = lowest_of (second_lowest n reached) l (second_search.found l);
      order = omega (arith, second_search.low);
      none_lower = λ set k h m. ⊎_elim (λ e. e) (λ q. absurd (omega arith)) (lowest_cases k h);
    }

    -- the facts tell the places
    pub two_places : {i j : ℕ} → TwoClosed n rate i j → (i ≡ first_lowest n reached) × (j ≡ second_lowest n reached)
    two_places {i} {j} h =
        let f = first_lowest n reached in
        let a : f ≤ i = first_at_most first_search i (omega arith) (of_lowest i h.one_lowest) in
        let e : f ≡ i = h.none_lower _ f first_lowest_lem (omega (arith, h.order)) in
        let b : second_lowest n reached ≤ j = first_at_most second_search j (omega (arith, h.order)) (of_lowest j h.two_lowest) in
        (sym e, elim (dec_lt (second_lowest n reached) j) [ yes m ↦ absurd (lower e m) | no m ↦ omega arith ])
      where
        lower : first_lowest n reached ≡ i → second_lowest n reached < j → ⊥
        lower e m =
            let l : second_lowest n reached < n = omega (arith, h.two_lowest.below) in
            omega (arith, h.none_lower _ (second_lowest n reached) (lowest_of (second_lowest n reached) l (second_search.found l)) m, second_search.low)

    -- ---- an answer

    pub one_found : n ≤ second_lowest n reached → OnlyClosed n rate (lowest_set n reached)
    unfolding lowest_set
    one_found l = record { closed = first_lowest_lem.closed; only = only }
      where
        only : (other : ℕ → Bool) → Closed n rate other → (i : ℕ) → i < n → other i ≡ reached (first_lowest n reached) i
        only other o =
            let h = closed_lowest o in
            let e : first other 0 n ≡ first_lowest n reached =
            ⊎_elim (λ e. e) (λ q. absurd (omega (arith, h.below))) (lowest_cases (first other 0 n) h) in
            closed_meet o first_lowest_lem.closed (first_lowest n reached) first_below (rw e at h.inside) first_lowest_lem.inside

    -- a chain has an answer if and only if there is no second closed set
    pub answer_one : HasAnswer n rate → n ≤ second_lowest n reached
    answer_one h = elim (dec_lt (second_lowest n reached) n) [ yes l ↦ absurd (never (two_found l)) | no l ↦ omega arith ]
      where
        never : TwoClosed n rate (first_lowest n reached) (second_lowest n reached) → ⊥
        never t =
            let f = first_lowest n reached in
            let a = h.one.only t.one t.one_lowest.closed f first_below in
            let b = h.one.only t.two t.two_lowest.closed f first_below in
            false≢true (sym (t.two_lowest.lower f t.order) ∙ b ∙ sym a ∙ t.one_lowest.inside)
