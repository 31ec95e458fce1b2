-- The listing of a set's states. Assumes nothing.
use mathlib.Core.Bool.{Bool, true, false, false≢true}
use mathlib.Core.List.{List}
use mathlib.Core.Logic.{◌≢◌, ⊎_elim}
use mathlib.Core.Path.{◌≡◌, refl, sym, ap, ◌∙◌}
use Prim.Native.Nat.{ℕ, ◌+◌, ◌≤◌, ◌<◌}
use native.Mathlib.Nat.{eq-or-lt_of_le}
use native.Mathlib.Omega.{arith}
use lib.ListN.{length, get_or, set as update, replicate, length-set, get_or-replicate}
use lib.Seq.{get_or-set_same, get_or-set_other}
use Rattle.std.specs.Prelude.{Option, Some, None}
use Rattle.std.proofs.lemmas.Option.{none-some}
use Rattle.markov.specs.Closed.{size, member}
use Rattle.markov.proofs.Members.{member_below, member_in, place_member, place_below, member_place, size_le}
use Rattle.members.specs.Members.{Listed}
use Rattle.members.proofs.Sizes.{size_none, size_next_in, size_next_out}

module _ {n : ℕ} {set : ℕ → Bool} {r : ℕ} {list : List ℕ} {places : List (Option ℕ)} (h : Listed n set r list places) where
  pub listed_count : r ≤ n
  listed_count = omega (arith, h.count, size_le n set)

  pub listed_place : (a : ℕ) → a < r → get_or places (get_or list a 0) None ≡ Some a
  listed_place a l =
      let g : a < size n set = omega (arith, h.count) in
      rw (h.state a l) (h.place (member n set a) (member_below n set a g) (member_in n set a g) ∙ ap (λ (p : ℕ). Some p) (place_member n set a g))

  pub listed_below : (a : ℕ) → a < r → get_or list a 0 < n
  listed_below a l = rw (h.state a l) (member_below n set a (omega (arith, h.count)))

  pub listed_state : (i b : ℕ) → i < n → get_or places i None ≡ Some b → (b < r) × (get_or list b 0 ≡ i)
  listed_state i b l q = go (set i) refl
    where
      go : (t : Bool) → set i ≡ t → (b < r) × (get_or list b 0 ≡ i)
      go true t =
          let place : size i set ≡ b = let e : Some (size i set) ≡ Some b = sym (h.place i l t) ∙ q in cc in
          let below : b < r = omega (arith, place, h.count, place_below n set i l t) in
          (below, h.state b below ∙ ap (member n set) (sym place) ∙ member_place n set i l t)
      go false t = absurd (none-some b (sym (h.no_place i l t) ∙ q))

-- ---- the list made, state by state

-- the states of the set below i are listed, and every other state has no place
pub record ListedTo (n : ℕ) (set : ℕ → Bool) (i r : ℕ) (list : List ℕ) (places : List (Option ℕ)) : Type 0 where
  pub count : r ≡ size i set
  pub list_long : length list ≡ 64
  pub places_long : length places ≡ 64
  pub state : (p : ℕ) → p < r → get_or list p 0 ≡ member n set p
  pub place : (j : ℕ) → j < i → set j ≡ true → get_or places j None ≡ Some (size j set)
  pub no_place : (j : ℕ) → j < 64 → (j < i → set j ≡ false) → get_or places j None ≡ None

pub listing_none : {n : ℕ} (set : ℕ → Bool) → ListedTo n set 0 0 (replicate 64 0) (replicate 64 None)
listing_none set = record {
  count = sym (size_none set);
  list_long = refl;
  places_long = refl;
  state = λ p l. absurd (omega arith);
  place = λ j l t. absurd (omega arith);
  no_place = λ j l t. get_or-replicate 64 j None None l;
}

module _ {n : ℕ} {set : ℕ → Bool} {i r : ℕ} {list : List ℕ} {places : List (Option ℕ)} (l : i < n) (b : n ≤ 64) (h : ListedTo n set i r list places) where
  pub listing_in : set i ≡ true → (p q : ℕ) → p ≡ r → q ≡ r → ListedTo n set (i + 1) (r + 1) (update list p i) (update places i (Some q))
  listing_in t p q e f = record {
    count = omega (arith, h.count, size_next_in set i t);
    list_long = length-set list p i ∙ h.list_long;
    places_long = length-set places i (Some q) ∙ h.places_long;
    state = λ a g. ⊎_elim
        (λ (z : a ≡ p). rw z
        (get_or-set_same list p i 0 (omega (arith, h.list_long, h.count, size_le i set))
        ∙ sym (ap (member n set) (e ∙ h.count) ∙ member_place n set i l t)))
        (λ z. get_or-set_other list p a i 0 (λ w. omega arith) ∙ h.state a (omega arith))
        (eq-or-lt_of_le (omega arith));
    place = λ j g u. ⊎_elim
        (λ (z : j ≡ i). rw z (get_or-set_same places i (Some q) None (omega (arith, h.places_long)) ∙ ap (λ (p : ℕ). Some p) (f ∙ h.count)))
        (λ z. get_or-set_other places i j (Some q) None (λ w. omega arith) ∙ h.place j z u)
        (eq-or-lt_of_le (omega arith));
    no_place = λ j g u.
        let d : j ≢ i = λ z. false≢true (sym (u (omega arith)) ∙ ap set z ∙ t) in
        get_or-set_other places i j (Some q) None d ∙ h.no_place j g (λ v. u (omega arith));
  }

  pub listing_out : set i ≡ false → ListedTo n set (i + 1) r list places
  listing_out t = record {
    count = omega (arith, h.count, size_next_out set i t);
    list_long = h.list_long;
    places_long = h.places_long;
    state = h.state;
    place = λ j g u. ⊎_elim
        (λ (z : j ≡ i). absurd (false≢true (sym t ∙ ap set (sym z) ∙ u)))
        (λ z. h.place j z u)
        (eq-or-lt_of_le (omega arith));
    no_place = λ j g u. h.no_place j g (λ v. u (omega arith));
  }
