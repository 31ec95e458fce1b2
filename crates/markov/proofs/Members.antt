-- The states of a set in rising order, and sums over them. Assumes nothing.
use mathlib.Core.Bool.{Bool, true, false, cond}
use mathlib.Core.Path.{◌≡◌, refl, sym, ap, ◌∙◌}
use Prim.Native.Nat.{ℕ, zero, suc, ◌+◌, ◌-◌, ◌≤◌, ◌<◌, zero-le, suc-le-suc}
use native.Mathlib.Decide.{dec_lt}
use native.Mathlib.Omega.{arith}
use Rattle.basics.specs.Sum.{sum}
use Rattle.basics.proofs.SumLaws.{sum_cong}
use Rattle.basics.specs.Below.{count}
use Rattle.markov.specs.Closed.{size, member, last}

-- the set without state 0, the others counted from 0
abbrev rest : (ℕ → Bool) → ℕ → Bool
rest set i = set (suc i)

size_in : (n : ℕ) (set : ℕ → Bool) → set zero ≡ true → size (suc n) set ≡ suc (size n (rest set))
unfolding size sum count
size_in n set t = rw t (omega arith)

size_out : (n : ℕ) (set : ℕ → Bool) → set zero ≡ false → size (suc n) set ≡ size n (rest set)
unfolding size sum count
size_out n set t = rw t (omega arith)

member_first : (n : ℕ) (set : ℕ → Bool) → set zero ≡ true → member (suc n) set zero ≡ zero
unfolding member
member_first n set t = rw t

member_next : (n : ℕ) (set : ℕ → Bool) (p : ℕ) → set zero ≡ true → member (suc n) set (suc p) ≡ suc (member n (rest set) p)
unfolding member
member_next n set p t = rw t

member_out : (n : ℕ) (set : ℕ → Bool) (p : ℕ) → set zero ≡ false → member (suc n) set p ≡ suc (member n (rest set) p)
unfolding member
member_out n set zero t = rw t
member_out n set (suc p) t = rw t

-- i is the state at place p
record Placed (n : ℕ) (set : ℕ → Bool) (p i : ℕ) : Type 0 where
  pub below : i < n
  pub inside : set i ≡ true
  pub place : size i set ≡ p

placed_in : {n : ℕ} {set : ℕ → Bool} {p i : ℕ} → set zero ≡ true → Placed n (rest set) p i → Placed (suc n) set (suc p) (suc i)
placed_in {n} {set} {p} {i} t h = record { below = suc-le-suc h.below; inside = h.inside; place = size_in i set t ∙ ap suc h.place }

placed_out : {n : ℕ} {set : ℕ → Bool} {p i : ℕ} → set zero ≡ false → Placed n (rest set) p i → Placed (suc n) set p (suc i)
placed_out {n} {set} {p} {i} t h = record { below = suc-le-suc h.below; inside = h.inside; place = size_out i set t ∙ h.place }

member_placed : (n : ℕ) (set : ℕ → Bool) (p : ℕ) → p < size n set → Placed n set p (member n set p)
unfolding size sum member
member_placed zero set p l = absurd (omega arith)
member_placed (suc n) set zero l = go (set zero) refl (member_placed n (rest set) zero)
  where
    go : (b : Bool) → set zero ≡ b → (zero < size n (rest set) → Placed n (rest set) zero (member n (rest set) zero))
        → Placed (suc n) set zero (cond b zero (suc (member n (rest set) zero)))
    go true t h = record { below = omega arith; inside = t; place = refl }
    go false t h = placed_out t (h (omega (arith, size_out n set t)))
member_placed (suc n) set (suc p) l = go (set zero) refl (member_placed n (rest set))
  where
    go : (b : Bool) → set zero ≡ b → ((p : ℕ) → p < size n (rest set) → Placed n (rest set) p (member n (rest set) p))
        → Placed (suc n) set (suc p) (suc (member n (rest set) (cond b p (suc p))))
    go true t h = placed_in t (h p (omega (arith, size_in n set t)))
    go false t h = placed_out t (h (suc p) (omega (arith, size_out n set t)))

module _ (n : ℕ) (set : ℕ → Bool) (p : ℕ) (l : p < size n set) where
  pub member_below : member n set p < n
  member_below = (member_placed n set p l).below

  pub member_in : set (member n set p) ≡ true
  member_in = (member_placed n set p l).inside

  pub place_member : size (member n set p) set ≡ p
  place_member = (member_placed n set p l).place

-- a state of the set has a place, and stands at it
pub place_below : (n : ℕ) (set : ℕ → Bool) (i : ℕ) → i < n → set i ≡ true → size i set < size n set
unfolding size sum count
place_below zero set i l t = absurd (omega arith)
place_below (suc n) set zero l t = rw t (omega arith)
place_below (suc n) set (suc i) l t = omega (arith, place_below n (rest set) i (omega arith) t)

pub member_place : (n : ℕ) (set : ℕ → Bool) (i : ℕ) → i < n → set i ≡ true → member n set (size i set) ≡ i
unfolding member size sum
member_place zero set i l t = absurd (omega arith)
member_place (suc n) set zero l t = rw t
member_place (suc n) set (suc i) l t = go (set zero) refl (member_place n (rest set) i (omega arith) t)
  where
    go : (b : Bool) → set zero ≡ b → member n (rest set) (size i (rest set)) ≡ i → member (suc n) set (size (suc i) set) ≡ suc i
    go true b h = ap (member (suc n) set) (size_in i set b) ∙ member_next n set (size i (rest set)) b ∙ ap suc h
    go false b h = ap (member (suc n) set) (size_out i set b) ∙ member_out n set (size i (rest set)) b ∙ ap suc h

-- ---- the order of the states

pub size_mono : (i j : ℕ) (set : ℕ → Bool) → i ≤ j → size i set ≤ size j set
unfolding size sum
size_mono zero j set l = zero-le
size_mono (suc i) zero set l = absurd (omega arith)
size_mono (suc i) (suc j) set l = omega (arith, size_mono i j (rest set) (omega arith))

-- a set has no more than n states, and a state's place is never above its number
pub size_le : (n : ℕ) (set : ℕ → Bool) → size n set ≤ n
unfolding size sum
size_le zero set = zero-le
size_le (suc n) set = go (set zero) refl (size_le n (rest set))
  where
    go : (b : Bool) → set zero ≡ b → size n (rest set) ≤ n → size (suc n) set ≤ suc n
    go true t h = omega (arith, size_in n set t)
    go false t h = omega (arith, size_out n set t)

-- the states rise with their places
pub member_rises : (n : ℕ) (set : ℕ → Bool) (p q : ℕ) → p < q → q < size n set → member n set p < member n set q
member_rises n set p q l m =
    elim (dec_lt (member n set p) (member n set q)) [
      | yes h ↦ h
      | no h ↦ absurd (omega (arith, size_mono (member n set q) (member n set p) set (omega arith), place_member n set p (omega arith), place_member n set q m))
    ]

-- the last state is the highest
pub last_highest : (n : ℕ) (set : ℕ → Bool) (i : ℕ) → i < n → set i ≡ true → i ≤ last n set
unfolding last
last_highest n set i l t =
    let m = place_below n set i l t in
    elim (dec_lt (member n set (size n set - 1)) i) [
      | yes h ↦ absurd (omega (
        arith,
        place_below i set (member n set (size n set - 1)) h (member_in n set (size n set - 1) (omega arith)),
        place_member n set (size n set - 1) (omega arith),
      ))
      | no h ↦ omega arith
    ]

-- ---- sums

-- a sum over all states of what is 0 outside the set is the sum over its states
pub sum_members : (n : ℕ) (set : ℕ → Bool) (f : ℕ → ℕ) → ((i : ℕ) → i < n → set i ≡ false → f i ≡ 0)
    → sum n f ≡ sum (size n set) (λ p. f (member n set p))
unfolding sum size
sum_members zero set f z = refl
sum_members (suc n) set f z = go (set zero) refl (sum_members n (rest set) (λ i. f (suc i)) (λ i l t. z (suc i) (suc-le-suc l) t))
  where
    go : (b : Bool) → set zero ≡ b → sum n (λ i. f (suc i)) ≡ sum (size n (rest set)) (λ p. f (suc (member n (rest set) p)))
        → f zero + sum n (λ i. f (suc i)) ≡ sum (size (suc n) set) (λ p. f (member (suc n) set p))
    go true b h =
        rw (size_in n set b)
        (ap (λ (x : ℕ). x + sum n (λ i. f (suc i))) (ap f (sym (member_first n set b)))
        ∙ ap (λ (x : ℕ). f (member (suc n) set zero) + x) (h ∙ sum_cong (size n (rest set)) (λ p l. ap f (sym (member_next n set p b)))))
    go false b h =
        rw (size_out n set b)
        (omega (arith, z zero (omega arith) b, h ∙ sum_cong (size n (rest set)) (λ p l. ap f (sym (member_out n set p b)))))
