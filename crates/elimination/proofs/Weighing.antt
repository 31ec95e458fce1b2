-- From the matrix that is loaded to the weights and the shares of the set, and from its places to the states of the chain. Assumes nothing.
use mathlib.Core.Bool.{Bool, true, false}
use mathlib.Core.List.{List}
use mathlib.Core.Path.{◌≡◌, refl, sym, ap₂, ◌∙◌}
use Prim.Native.Nat.{ℕ, zero, suc, ◌-◌, ◌<◌}
use native.Mathlib.Omega.{arith}
use lib.IntN.{ℤ}
use Rattle.std.specs.Prelude.{Option}
use Rattle.markov.specs.Elimination.{weights, shares}
use Rattle.markov.specs.Promises.{AllFit}
use Rattle.markov.specs.Closed.{size, alone, spread}
use Rattle.markov.proofs.Members.{place_below}
use Rattle.markov.proofs.SetBalance.{spread_in, spread_out}
use Rattle.markov.proofs.Diagonal.{Agree, total_cong, weights_cong}
use Rattle.markov.proofs.DiagonalFits.{all_fit_cong}
use Rattle.scaled.specs.declared.Scaled.{Scaled}
use Rattle.scaled.specs.Scaled.{zero_number}
use Rattle.chain.specs.Rows.{Rows}
use Rattle.kernel.specs.Numbers.{Fit, ops, divided_by}
use Rattle.kernel.specs.declared.Numbers.{Numbers}
use Rattle.kernel.specs.Slices.{Slices, pair, number_at, entry_at}
use Rattle.kernel.specs.Lent.{held}
use Rattle.kernel.specs.Kernel.{Square, Holds}
use Rattle.weighing.specs.Weighing.{share_of, total_of, SharesFit}
use Rattle.weighing.proofs.Shares.{shares_fit}
use Rattle.members.specs.Members.{Listed}
use Rattle.elimination.specs.Inner.{matrix_of, set_matrix, Weighable, SetSolved, Loaded}

-- slices that hold f hold whatever is equal to it
pub holds_same : {n : ℕ} {f g : ℕ → Scaled} {s : Slices} → ((i : ℕ) → i < n → f i ≡ g i) → Holds n f s → Holds n g s
holds_same e h = record { sized = h.sized; at = λ i l. h.at i l ∙ e i l }

-- the matrix of the states of a set
module _ {c : Rows} {set : ℕ → Bool} {r : ℕ} {states : List ℕ} {places : List (Option ℕ)} {s : Slices} (some : zero < r) (l : Listed c.order set r states places)
    (h : Loaded c states r s) where
  entry_is : Agree (r - 1) (entry_at r s) (set_matrix c set)
  unfolding alone
  entry_is i j hi hj d =
      h.entry i j (omega arith) (omega arith) ∙ ap₂ (matrix_of c) (l.state i (omega arith)) (l.state j (omega arith))

  pub loaded_fits : AllFit ops Fit (r - 1) (set_matrix c set) → AllFit ops Fit (r - 1) (entry_at r s)
  loaded_fits = all_fit_cong ops Fit (r - 1) (λ i j hi hj d. sym (entry_is i j hi hj d))

  pub weights_hold : {w : Slices} → Holds r (weights ops (r - 1) (entry_at r s)) w → Holds r (weights ops (r - 1) (set_matrix c set)) w
  weights_hold = holds_same (λ i g. weights_cong ops (r - 1) entry_is i (omega arith))

-- the shares of the weights that the slices hold
module _ {c : Rows} {set : ℕ → Bool} {r : ℕ} (h : Weighable c set r) {s : Slices} (w : Holds r (weights ops (r - 1) (set_matrix c set)) s) where
  pub sharable : SharesFit r s
  sharable = shares_fit r (set_matrix c set) h.some h.fits w

  share_is : (i : ℕ) → i < r → share_of s (total_of r s) i ≡ shares ops (r - 1) (set_matrix c set) i
  unfolding total_of shares
  share_is i l =
      let last : suc (r - 1) ≡ r = omega (arith, h.some) in
      rw last (ap₂ divided_by (w.at i l) (total_cong ops r (λ j g. w.at j g)))

  pub set_solved : {q t : Slices} → Square r q → Holds r (share_of s (total_of r s)) t → SetSolved c set r q s t
  set_solved q t = record { square = q; weights_are = w; shares_are = holds_same share_is t }

-- what the lender of the slices holds at the end
pub solved_end : {c : Rows} {set : ℕ → Bool} {r : ℕ} {q : Slices} (w t : Numbers) {wm sm : List ℕ} {we se : List ℤ} → SetSolved c set r q (held w) (held t)
    → wm ≡ w.m.now → we ≡ w.e.now → sm ≡ t.m.now → se ≡ t.e.now → SetSolved c set r q (pair wm we) (pair sm se)
solved_end w t h a b d f = rw (a, b, d, f) h

-- ---- each result goes to its state

-- slices of n places whose first places hold f, once spread, hold f at the states of the set
pub spread_holds : (n r : ℕ) (set : ℕ → Bool) {f : ℕ → Scaled} (s : Slices) {t : Slices} → r ≡ size n set → ((p : ℕ) → p < r → number_at s p ≡ f p)
    → Holds n (spread set zero_number (number_at s)) t → Holds n (spread set zero_number f) t
spread_holds n r set {f} s e h = holds_same (λ i l. same i l (set i) refl)
  where
    same : (i : ℕ) → i < n → (b : Bool) → set i ≡ b → spread set zero_number (number_at s) i ≡ spread set zero_number f i
    same i l true b = spread_in set zero_number (number_at s) i b ∙ h (size i set) (omega (arith, e, place_below n set i l b)) ∙ sym (spread_in set zero_number f i b)
    same i l false b = spread_out set zero_number (number_at s) i b ∙ sym (spread_out set zero_number f i b)
