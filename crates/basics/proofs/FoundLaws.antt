-- What `find` and `all` over a range and `position` in a slice give: the first number at which a test holds, if there is one, and whether it
-- holds at every number below n. Assumes nothing.
use Prim.Native.Nat.{ℕ, ◌<◌, ◌≤◌}
use mathlib.Core.Bool.{Bool, true, false, cond, false≢true}
use mathlib.Core.List.{List}
use mathlib.Core.Path.{◌≡◌, refl, sym, ◌∙◌}
use native.Mathlib.Omega.{arith}
use lib.ListN.{length, get_or}
use lib.Dec.{ltb}
use Rattle.std.proofs.lemmas.Bool.{lt-ltb, le-ltb, ltb-true, ltb-false}
use Rattle.std.proofs.lemmas.Option.{cond_some, none-some}
use denote.Param.Members.{Mut}
use denote.Ref.{Bor}
use Rattle.std.specs.declared.ops.Range.{Range}
use Rattle.std.specs.Fn.{Called, CalledAt}
use Rattle.std.specs.Iterator.{YieldsThen}
use Rattle.std.specs.List.{FoldsTo, AllWithin, HoldsAt, range_with_len}
use Rattle.std.specs.Option.{MatchOption, is_some}
use Rattle.std.specs.Bool.{⊤, MatchBool}
use Rattle.std.specs.Prelude.{Option, Some, None}
use Rattle.std.proofs.iter.Yields.{nat_range_steps}
use Rattle.std.proofs.lemmas.Iterator.{first_from_Range, cases_from_all, YieldsList-from_range}
use Rattle.std.proofs.lemmas.List.FromFn.{length-range_with_len, get_or-range_with_len}
use Rattle.basics.specs.Below.{all}
use Rattle.basics.specs.First.{first, found}
use Rattle.basics.proofs.FirstLaws.{first_is}
use Rattle.basics.proofs.BoolLaws.{all_of, all_fails}

module _ (test : ℕ → Bool) (i e : ℕ) where
  pub found_here : (r : ℕ) → i ≤ r → r < e → test r ≡ true → ((k : ℕ) → i ≤ k → k < r → test k ≡ false) → Some r ≡ found test i e
  found_here r low high t before =
      let f = first_is test i e (omega arith) in
      let not_lower : first test i e < r → ⊥ = λ m. false≢true (sym (before _ f.low m) ∙ f.found (omega arith)) in
      let not_higher : r < first test i e → ⊥ = λ m. false≢true (sym (f.before r low m) ∙ t) in
      let same : first test i e ≡ r = omega (arith, not_lower, not_higher) in
      rw (same, lt-ltb r e high)

  pub found_nowhere : i ≤ e → ((k : ℕ) → i ≤ k → k < e → test k ≡ false) → None ≡ found test i e
  found_nowhere l none =
      let f = first_is test i e l in
      let not_found : first test i e < e → ⊥ = λ m. false≢true (sym (none _ f.low m) ∙ f.found m) in
      rw (le-ltb (first test i e) e (omega (arith, not_found)))

  -- what is found, and where nothing is
  pub found_some : (r : ℕ) → found test i e ≡ Some r → (r ≡ first test i e) × (r < e)
  found_some r h = let k : (ltb (first test i e) e ≡ true) × (first test i e ≡ r) = cond_some _ _ _ h in (sym k.1, omega (arith, k.1, ltb-true (first test i e) e k.0))

  pub found_none : i ≤ e → found test i e ≡ None → first test i e ≡ e
  found_none l h = go (ltb (first test i e) e) refl h
    where
      go : (t : Bool) → ltb (first test i e) e ≡ t → cond t (Some (first test i e)) None ≡ None → first test i e ≡ e
      go true t h = absurd (none-some (first test i e) (sym h))
      go false t h = omega (arith, (first_is test i e l).high, ltb-false _ _ t)

  pub found_yes : first test i e < e → found test i e ≡ Some (first test i e)
  found_yes l = rw (lt-ltb _ _ l)

  -- the same, of an answer that is asked whether it is there
  pub found_is_some : (r : Option ℕ) → r ≡ found test i e → is_some r ≡ true → first test i e < e
  found_is_some (Some r) h t = let k = found_some r (sym h) in omega (arith, k.0, k.1)
  found_is_some None h t = absurd (false≢true t)

  pub found_is_none : (r : Option ℕ) → i ≤ e → r ≡ found test i e → is_some r ≡ false → first test i e ≡ e
  found_is_none (Some r) l h t = absurd (false≢true (sym t))
  found_is_none None l h t = found_none l (sym h)

  found_in_range : (r : Option ℕ) → i ≤ e
      → MatchOption r ((k : ℕ) → i ≤ k → k < e → test k ≡ false)
      (λ j. (i ≤ j) × (j < e) × (test j ≡ true) × ((k : ℕ) → i ≤ k → k < j → test k ≡ false))
      → r ≡ found test i e
  found_in_range (Some j) l h = found_here j h.0 h.1 h.2 h.3
  found_in_range None l h = found_nowhere l h

-- what `find` over a range gives, from its clause `ran`; the closure tells the test
pub found_by_find : {F : Type 0} {g : Mut F (Bor ℕ × Unit {0}) Bool} (test : ℕ → Bool) (s u : Range ℕ) (f : F) (r : Option ℕ)
    → (xs : List ℕ) × (j : F) × YieldsThen nat_range_steps s xs r u × FoldsTo (λ p x q. CalledAt g p x false q) f xs j × MatchOption r ⊤ (λ x. (h : F) × CalledAt g j x true h)
    → s.start ≤ s.end → ((x : ℕ) (q : F) → CalledAt g f x true q → test x ≡ true) → ((x : ℕ) (q : F) → CalledAt g f x false q → (q ≡ f) × (test x ≡ false))
    → r ≡ found test s.start s.end
found_by_find test s u f r ran l holds fails =
    found_in_range test s.start s.end r l (first_from_Range s u f r (λ x. test x ≡ true) (λ x. test x ≡ false) ran holds fails)

-- what `position` in a slice gives, by the library's lemma `IsFirst-from_position`; the test is one of numbers
pub found_in_list : (p : ℕ → Bool) (xs : List ℕ) (r : Option ℕ)
    → MatchOption r (AllWithin (λ y. p y ≡ false) xs 0 (length xs))
    (λ i. (i < length xs) × HoldsAt (λ y. p y ≡ true) xs i × AllWithin (λ y. p y ≡ false) xs 0 i)
    → r ≡ found (λ i. p (get_or xs i 0)) 0 (length xs)
found_in_list p xs (Some i) h =
    found_here (λ i. p (get_or xs i 0)) 0 (length xs) i (omega arith) h.0 (h.1 0) (λ k a b. h.2 k 0 (omega arith) b)
found_in_list p xs None h = found_nowhere (λ i. p (get_or xs i 0)) 0 (length xs) (omega arith) (λ k a b. h k 0 (omega arith) b)

-- what `all` over the numbers below n gives; the closure tells the test
pub all_by_all : {F : Type 0} {g : Mut F (ℕ × Unit {0}) Bool} (test : ℕ → Bool) (n : ℕ) {s : Range ℕ} (u : Range ℕ) (f : F) (r : Bool)
    → (xs : List ℕ) × (o : Option ℕ) × (j : F) × YieldsThen nat_range_steps s xs o u × FoldsTo (λ p x q. Called g p (x, tt) true q) f xs j
    × MatchOption o (r ≡ true) (λ x. (r ≡ false) × ((h : F) × Called g j (x, tt) false h))
    → s ≡ record { start = 0; end = n } → ((x : ℕ) (q : F) → Called g f (x, tt) true q → (q ≡ f) × (test x ≡ true)) → ((x : ℕ) (q : F) → Called g f (x, tt) false q → test x ≡ false)
    → r ≡ all n test
all_by_all test n u f r ran e holds fails =
    go r (cases_from_all u f r (λ x. test x ≡ true) (λ x. test x ≡ false) ran (YieldsList-from_range 0 n n e (omega arith)) holds fails)
  where
    count : length (range_with_len 0 n) ≡ n
    count = length-range_with_len 0 n

    at : (k : ℕ) → k < n → get_or (range_with_len 0 n) k 0 ≡ k
    at k l = omega (arith, get_or-range_with_len 0 n k 0 l)

    go : (r : Bool) → MatchBool r (AllWithin (λ x. test x ≡ true) (range_with_len 0 n) 0 (length (range_with_len 0 n)))
        ((k : ℕ) × (k < length (range_with_len 0 n)) × HoldsAt (λ x. test x ≡ false) (range_with_len 0 n) k) → r ≡ all n test
    go true h = sym (all_of n test (λ k l. rw (at k l) at (h k 0 (omega arith) (omega (arith, count)))))
    go false h = let l : h.0 < n = omega (arith, h.1, count) in sym (all_fails n test h.0 l (rw (at h.0 l) at (h.2 0)))
