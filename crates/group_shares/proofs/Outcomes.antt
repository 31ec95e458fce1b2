-- The contract of `solve_groups` at its ways out. Assumes nothing.
use mathlib.Core.Bool.{true, false}
use mathlib.Core.List.{List}
use mathlib.Core.Path.{◌≡◌, refl, sym, ap, ◌∙◌}
use Prim.Native.Nat.{ℕ, ◌*◌, ◌≤◌, ◌<◌}
use native.Mathlib.Omega.{arith}
use lib.ListN.{length}
use lib.Seq.{get_or-take, length-sets}
use Rattle.std.specs.Prelude.{Result, Ok, Err}
use Rattle.refusal.specs.declared.Refusal.{Refusal}
use Rattle.refusal.specs.Table.{Verdict, accepts, refuses, verdict}
use Rattle.chain.specs.Rows.{Rows}
use Rattle.chain.specs.Meaning.{rate_in}
use Rattle.reach.specs.Answer.{set_of}
use Rattle.kernel.specs.Numbers.{Fit, ops}
use Rattle.kernel.specs.Slices.{Slices, number_at}
use Rattle.kernel.specs.Kernel.{Holds}
use Rattle.solver.specs.Lent.{Lent, both_have, enough_in, Places}
use Rattle.solver.specs.Solve.{weights_of, shares_of, numbers, zeros, after_in, Solved}
use Rattle.solver.proofs.Demands as demands
use Rattle.elimination.proofs.Cut.{cut, joined}
use Rattle.solver.proofs.Outcomes.{back_done, numbers_sized, places_cut}
use Rattle.solver.proofs.Tables.{numbers_are, numbers_begin}
use Rattle.group_table.specs.Sums.{group_places, in_group, group_share}
use Rattle.groups.specs.Inner.{Summable}
use Rattle.group_shares.specs.GroupShares.{GroupLent, enough_for, groups_solved, group_shares_of, GroupsSolvable, GroupsAccurate, GroupsSolved}
use Rattle.group_shares.specs.Inner.{suits, admitted}
use Rattle.group_shares.proofs.Admission.{refused_then, solving_decides, not_suited}
use Rattle.group_shares.proofs.Bound.{picked_cong, groups_accurate}
use Rattle.group_shares.proofs.Acceptance.{solved_says, solvable_accepted, accepted_solvable}

-- the lengths stay as they were
kept_places : {k : ℕ} (v : Verdict ℕ) {old new : Slices} (x : Slices) → new ≡ after_in v old x → Places k old → Places k new
kept_places (accepts _) {old} x e p =
    rw e (record { for_m = rw (length-sets old.m 0 x.m) p.for_m; for_e = rw (length-sets old.e 0 x.e) p.for_e })
kept_places (refuses _ _) x e p = rw e p

-- ---- the answer, where `solve` decides

pub by_solving : (c : Rows) (table : List ℕ) (old : GroupLent) {r : Result ℕ Refusal} {mid : Lent}
    → suits c.order table (both_have group_places (length old.groups.m) (length old.groups.e)) ≡ true → Solved c old.solving r mid
    → verdict r ≡ groups_solved c table (enough_for c.order old)
by_solving c table old h s = s.answer ∙ sym (solving_decides c table _ (enough_in c.order old.solving) h)

-- ---- the ways out

module _ {c : Rows} (table : List ℕ) (old : GroupLent) {r : Result ℕ Refusal} (q : verdict r ≡ groups_solved c table (enough_for c.order old)) where
  refused : {f : Refusal} → r ≡ Err f → (mid : Lent) → mid.work ≡ after_in (verdict r) old.solving.work (zeros (c.order * c.order))
      → mid.weights ≡ after_in (verdict r) old.solving.weights (numbers c.order (weights_of c))
      → mid.shares ≡ after_in (verdict r) old.solving.shares (numbers c.order (shares_of c))
      → GroupsSolved c table old r (record { solving = mid; groups = old.groups })
  refused {f} t mid work weights shares = record {
    answer = q;
    says = rw q (solved_says c table old);
    acceptance = (λ h. q ∙ solvable_accepted c table old h, λ a. accepted_solvable c table old (sym q ∙ a));
    work = work;
    weights = weights;
    shares = shares;
    groups = rw t;
    the_set = λ k a. absurd (never k a);
    in_range = λ k a. absurd (never k a);
    balancing = λ set o. demands.balancing c.order _ o;
    accurate = λ k a. absurd (never k a);
    groups_accurate = λ k a. absurd (never k a);
  }
    where
      never : (k : ℕ) → verdict r ≡ accepts k → ⊥
      never k a = let u : verdict r ≡ verdict (Err f) = ap verdict t in let z : ◌≡◌ {A = ℕ} 0 1 = cc in omega arith

  -- refused by solving
  pub solving_refused : {f : Refusal} {mid : Lent} → r ≡ Err f → Solved c old.solving r mid
      → GroupsSolved c table old r (record { solving = mid; groups = old.groups })
  solving_refused {mid = mid} t s = refused t mid s.work s.weights s.shares

  -- ---- after `solve` was accepted

  module _ {j : ℕ} (a : verdict r ≡ accepts j) {mid : Lent} (s : Solved c old.solving r mid) where
    solvable : GroupsSolvable c table old
    solvable = accepted_solvable c table old (sym q ∙ a)

    share_is : (i : ℕ) → i < c.order → number_at mid.shares i ≡ shares_of c i
    share_is = numbers_begin c.order (shares_of c) (verdict r) old.solving.shares solvable.room.for_solving.for_shares a s.shares

    -- the needed places are there
    pub places : Places c.order mid.shares
    places = kept_places (verdict r) (numbers c.order (shares_of c)) s.shares solvable.room.for_solving.for_shares

    pub group_room : Places group_places old.groups
    group_room = solvable.room.for_groups

    -- the shares, cut to the needed places
    cut_is : (i : ℕ) → i < c.order → number_at (cut c.order mid.shares) i ≡ shares_of c i
    unfolding number_at
    cut_is i l = rw (get_or-take, get_or-take) (share_is i l)

    fits : (g k : ℕ) → k ≤ c.order → Fit (group_share table k (shares_of c) g)
    fits g k l = ((s.in_range j a).groups (in_group table g) k l).scaled

    pub summable : Summable c.order table (cut c.order mid.shares) (cut group_places old.groups)
    summable = record {
      order = solvable.accepted.sound.order.high;
      sound = solvable.table_sound;
      sized = places_cut mid.shares places;
      room = places_cut old.groups solvable.room.for_groups;
      fits = λ g k l. rw (picked_cong ops (in_group table g) k (λ i b. cut_is i (omega arith))) (fits g k l);
    }

    -- G holds the shares of the groups
    module _ {G : Slices} (h : Holds group_places (group_share table c.order (number_at (cut c.order mid.shares))) G) where
      held : Holds group_places (group_shares_of c table) G
      unfolding group_shares_of
      held = record { sized = h.sized; at = λ g l. h.at g l ∙ picked_cong ops (in_group table g) c.order cut_is }

      groups_are : joined group_places G old.groups ≡ after_in (verdict r) old.groups (numbers group_places (group_shares_of c table))
      groups_are = back_done a solvable.room.for_groups (numbers_sized group_places _) (numbers_are held)

      group_is : (g : ℕ) → g < group_places → number_at (joined group_places G old.groups) g ≡ group_shares_of c table g
      group_is = numbers_begin group_places (group_shares_of c table) (verdict r) old.groups solvable.room.for_groups a groups_are

      accurate : GroupsAccurate c.order (rate_in c) (set_of c) table j (group_shares_of c table)
      accurate =
          groups_accurate c table j (s.the_set j a).closed (s.in_range j a)
          (λ i b. rw (← share_is i b) ((s.accurate j a).shares_scaled i b)) (λ i b. rw (← share_is i b) ((s.accurate j a).shares i b))

      pub groups_done : GroupsSolved c table old r (record { solving = mid; groups = joined group_places G old.groups })
      groups_done = record {
        answer = q;
        says = rw q (solved_says c table old);
        acceptance = (λ h. q ∙ solvable_accepted c table old h, λ a. accepted_solvable c table old (sym q ∙ a));
        work = s.work;
        weights = s.weights;
        shares = s.shares;
        groups = groups_are;
        the_set = s.the_set;
        in_range = s.in_range;
        balancing = s.balancing;
        accurate = s.accurate;
        groups_accurate = λ k b. let e : j ≡ k = cc in record {
          scaled = λ g l. rw (group_is g l) (accurate.scaled g l);
          outside = λ g l h. group_is g l ∙ accurate.outside g l h;
          near = λ g l. rw (group_is g l, ← e) (accurate.near g l);
        };
      }

-- refused before solving: nothing has changed
pub turned_away : {c : Rows} (table : List ℕ) (old : GroupLent) (r : Result ℕ Refusal)
    → suits c.order table (both_have group_places (length old.groups.m) (length old.groups.e)) ≡ false
    → verdict r ≡ admitted c table (both_have group_places (length old.groups.m) (length old.groups.e)) → GroupsSolved c table old r old
turned_away {c} table old (Ok k) b q = absurd (not_suited c table _ b (sym q))
turned_away {c} table old (Err f) b q =
    refused table old {r = Err f} (sym (refused_then c table _ (enough_in c.order old.solving) (sym q))) refl old.solving refl refl refl
