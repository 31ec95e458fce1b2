-- The shares added to those of their groups, one state after another. Assumes nothing.
use Prim.Native.Nat.{ℕ, ◌+◌, ◌<◌}
use mathlib.Core.List.{List}
use mathlib.Core.Path.{◌≡◌, sym, ap, ◌∙◌}
use native.Mathlib.Decide.{ℕ_discrete}
use native.Mathlib.Numerals.{add-one}
use native.Mathlib.Omega.{arith}
use borrow.Author.Tests.{eq-eqb, ne_eqb}
use lib.IntN.{pos}
use lib.ListN.{replicate}
use Rattle.basics.proofs.FillLaws.{get_or_replicate}
use Rattle.range.specs.Range.{picked}
use Rattle.scaled.specs.declared.Scaled.{Scaled}
use Rattle.kernel.specs.Numbers.{Fit, plus}
use Rattle.kernel.specs.Slices.{Slices, number_at}
use Rattle.kernel.specs.Inner.{Placed}
use Rattle.group_table.specs.Rules.{group_of}
use Rattle.group_table.specs.Sound.{SoundTable}
use Rattle.group_table.specs.Sums.{group_share}
use Rattle.group_table.proofs.StateLaws.{group_is}

-- a group's number is below 16
pub group_below : {n : ℕ} {table : List ℕ} → SoundTable n table → (state : ℕ) → state < n → group_of table state < 16
group_below {table = table} h state l =
    let one = h.states state l in
    omega (arith, group_is table state one, (h.rows.row one.row one.below).group)

module _ (table : List ℕ) (f : ℕ → Scaled) where
  -- a state is added to its own group, and to no other
  own : (s g : ℕ) → group_of table s ≡ g → group_share table (s + 1) f g ≡ plus (group_share table s f g) (f s)
  unfolding picked
  own s g e = rw (add-one s, eq-eqb (group_of table s) g e)

  other : (s g : ℕ) → (group_of table s ≡ g → ⊥) → group_share table (s + 1) f g ≡ group_share table s f g
  unfolding picked
  other s g d = rw (add-one s, ne_eqb (group_of table s) g d)

  -- cleared places are the sums of no shares
  pub shares_none : {G : Slices} → (k j : ℕ) → (G.m ≡ replicate k 0) × (G.e ≡ replicate j (pos 0)) → (g : ℕ) → number_at G g ≡ group_share table 0 f g
  unfolding picked number_at
  shares_none k j h g = rw (h.0, h.1, get_or_replicate {A = ℕ} 0 k g, get_or_replicate (pos 0) j g)

  -- o is the group of state s
  module _ (s : ℕ) {o : ℕ} (G : Slices) (is : o ≡ group_of table s) (below : o < 16) (h : (g : ℕ) → g < 16 → number_at G g ≡ group_share table s f g) where
    sum_is : plus (number_at G o) (f s) ≡ group_share table (s + 1) f o
    sum_is = ap (λ (x : Scaled). plus x (f s)) (h o below) ∙ sym (own s o (sym is))

    -- the next sum is one that the caller knows to be a scaled number
    pub next_fits : Fit (group_share table (s + 1) f o) → Fit (plus (number_at G o) (f s))
    next_fits p = rw sum_is p

    pub shares_next : {G' : Slices} → Placed o (plus (number_at G o) (f s)) G G' → (g : ℕ) → g < 16 → number_at G' g ≡ group_share table (s + 1) f g
    shares_next p g l =
        elim (ℕ_discrete g o) [
          | yes e ↦ rw e (p.same ∙ sum_is)
          | no d ↦ (p.other g d ∙ h g l ∙ sym (other s g (λ e. d (sym e ∙ sym is))))
        ]
