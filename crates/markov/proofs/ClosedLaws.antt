-- A closed set is what any of its states reaches; two that share a state are the same; one that every state reaches is the only one;
-- and the set taken alone is irreducible. Assumes nothing.
use mathlib.Core.Bool.{Bool, true, false, false≢true}
use mathlib.Core.Logic.{⊎_elim}
use mathlib.Core.Path.{◌≡◌, refl, sym, ◌∙◌}
use Prim.Native.Nat.{ℕ, zero, suc, ◌-◌, ◌<◌}
use native.Mathlib.Nat.{eq-zero-or-pos}
use native.Mathlib.Omega.{arith}
use Rattle.markov.specs.Chain.{Rates, Reaches, here, move, Irreducible}
use Rattle.markov.specs.Closed.{Closed, OnlyClosed, size, member, last, alone}
use Rattle.markov.proofs.Members.{member_below, member_in, place_member, place_below, member_place}

pub reaches_trans : {n : ℕ} {rate : Rates} {i k j : ℕ} → Reaches n rate i k → Reaches n rate k j → Reaches n rate i j
reaches_trans here q = q
reaches_trans (move l r p) q = move l r (reaches_trans p q)

-- two tests that hold together are equal
same_test : (a b : Bool) → (a ≡ true → b ≡ true) → (b ≡ true → a ≡ true) → a ≡ b
same_test true b h k = sym (h refl)
same_test false true h k = k refl
same_test false false h k = refl

module _ {n : ℕ} {rate : Rates} {set : ℕ → Bool} (c : Closed n rate set) where
  -- a positive rate from a state of the set leads into the set
  pub closed_kept : (i k : ℕ) → i < n → k < n → set i ≡ true → zero < rate i k → set k ≡ true
  closed_kept i k hi hk t p = c.nothing_outside i k hi hk t (move hk p here)

  pub no_way_out : (i k : ℕ) → i < n → k < n → set i ≡ true → set k ≡ false → rate i k ≡ 0
  no_way_out i k hi hk t f =
      ⊎_elim (λ z. z) (λ p. absurd (false≢true (sym f ∙ closed_kept i k hi hk t p))) (eq-zero-or-pos (rate i k))

  pub closed_size : zero < size n set
  closed_size = omega (arith, place_below n set c.state c.below c.inside)

  -- the set has a last place
  pub last_place : suc (size n set - 1) ≡ size n set
  last_place = omega (arith, closed_size)

  pub last_below : last n set < n
  unfolding last
  last_below = member_below n set (size n set - 1) (omega (arith, closed_size))

  -- two closed sets that share a state have the same states
  pub closed_meet : {other : ℕ → Bool} → Closed n rate other → (i : ℕ) → i < n → set i ≡ true → other i ≡ true
      → (j : ℕ) → j < n → set j ≡ other j
  closed_meet o i hi t u j hj =
      same_test _ _ (λ s. o.nothing_outside i j hi hj u (c.others i j hi hj t s)) (λ s. c.nothing_outside i j hi hj t (o.others i j hi hj u s))

  -- a closed set that every state reaches is the only one: it shares a state with any other
  pub only_closed : ((i : ℕ) → i < n → Reaches n rate i c.state) → OnlyClosed n rate set
  only_closed r = record { closed = c; only = λ other o j hj. sym (closed_meet o c.state c.below c.inside (shared o) j hj) }
    where
      shared : {other : ℕ → Bool} → Closed n rate other → other c.state ≡ true
      shared o = o.nothing_outside o.state c.state o.below c.below o.inside (r o.state o.below)

  -- a path from a state of the set is one of the set taken alone
  path_alone : {i j : ℕ} → i < n → set i ≡ true → Reaches n rate i j → Reaches (size n set) (alone n set rate) (size i set) (size j set)
  unfolding alone
  path_alone hi t here = here
  path_alone hi t (move {i = i} {k = k} hk p w) =
      let u = closed_kept i k hi hk t p in
      move {i = size i set} {k = size k set} (place_below n set k hk u) (rw (member_place n set i hi t, member_place n set k hk u) p) (path_alone hk u w)

  pub alone_irreducible : Irreducible (size n set) (alone n set rate)
  alone_irreducible = record {
    path = λ p q hp hq.
        rw (place_member n set p hp, place_member n set q hq) at
        (path_alone (member_below n set p hp) (member_in n set p hp)
        (c.others (member n set p) (member n set q) (member_below n set p hp) (member_below n set q hq) (member_in n set p hp) (member_in n set q hq)));
  }
