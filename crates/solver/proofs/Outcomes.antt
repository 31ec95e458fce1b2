-- The contract of `solve` at its two ways out. Assumes nothing.
use mathlib.Core.Bool.{Bool}
use mathlib.Core.List.{List, ◌++◌}
use mathlib.Core.Path.{◌≡◌, sym, ap, ◌∙◌}
use Prim.Native.Nat.{ℕ, ◌+◌, ◌-◌, ◌*◌, ◌≤◌, ◌<◌}
use native.Mathlib.Omega.{arith}
use lib.IntN.{pos}
use lib.ListN.{length, get_or, drop}
use lib.Seq.{sets-eq}
use Rattle.std.specs.Prelude.{Result, Ok, Err}
use Rattle.refusal.specs.declared.Refusal.{Refusal}
use Rattle.refusal.specs.Table.{Verdict, accepts, verdict, after}
use Rattle.markov.specs.Chain.{Rates}
use Rattle.markov.specs.Promises.{AllFitShares}
use Rattle.markov.specs.Closed.{Closed, OnlyClosed, size, last}
use Rattle.markov.proofs.ClosedLaws.{closed_size, last_below}
use Rattle.markov.proofs.SameSet.{size_cong, alone_cong, set_weights_cong, set_shares_cong}
use Rattle.chain.specs.Rows.{Rows}
use Rattle.chain.specs.Sound.{Sound}
use Rattle.chain.specs.Meaning.{rate_in}
use Rattle.reach.specs.Answer.{set_of}
use Rattle.reach.proofs.AnswerLaws.{answer_set}
use Rattle.scaled.specs.declared.Scaled.{Scaled}
use Rattle.kernel.specs.Slices.{Slices}
use Rattle.kernel.specs.Numbers.{Fit, ops}
use Rattle.kernel.specs.Kernel.{Square, Sized}
use Rattle.solver.specs.Lent.{Lent, enough_in, Places}
use Rattle.solver.specs.Solve.{entries, set_size, set_entries, weights_of, shares_of, count_of, solved, numbers, zeros, after_in, Solvable, Accurate, Solved}
use Rattle.elimination.specs.Inner.{matrix_of, Weighable, Ran}
use Rattle.solver.proofs.Demands as demands
use Rattle.solver.proofs.Ranges as ranges
use Rattle.solver.proofs.AsBefore.{as_before}
use Rattle.solver.proofs.Acceptance.{solved_says, solvable_accepted, accepted_solvable}
use Rattle.basics.proofs.FillLaws.{length_replicate, table_length}
use Rattle.elimination.proofs.Cleared.{both_equal}
use Rattle.elimination.proofs.Cut.{cut, joined}
use Rattle.elimination.proofs.Running.{cut_sized}
use Rattle.elimination.proofs.Weighing.{holds_same}
use Rattle.solver.proofs.Tables.{numbers_are, numbers_begin}

-- ---- slices of which the first places were lent and came back

abbrev pub back : ℕ → Lent → Lent → Lent
back n new old = record {
  work = joined (n * n) new.work old.work;
  weights = joined n new.weights old.weights;
  shares = joined n new.shares old.shares;
}

after_done : {A : Type 0} {v : Verdict ℕ} {j : ℕ} (new old : List A) (k : ℕ) → v ≡ accepts j → length new ≡ k → k ≤ length old
    → new ++ drop k old ≡ after v old new
after_done new old k q l g =
    let e : k ≡ 0 + length new = omega arith in
    rw q (ap (λ (i : ℕ). new ++ drop i old) e ∙ sym (sets-eq new old 0 (omega arith)))

-- the first k places are as they came back, the others as they were
pub back_done : {v : Verdict ℕ} {k j : ℕ} {s old new : Slices} → v ≡ accepts j → Places k old → Sized k new → s ≡ new → joined k s old ≡ after_in v old new
back_done {k = k} {old = old} {new = new} q p z h =
    rw h
    (both_equal (after_done new.m old.m k q z.size_m p.for_m) (after_done new.e old.e k q z.size_e p.for_e))

zeros_sized : (k : ℕ) → Sized k (zeros k)
zeros_sized k = record { size_m = length_replicate 0 k; size_e = length_replicate (pos 0) k }

pub numbers_sized : (n : ℕ) (f : ℕ → Scaled) → Sized n (numbers n f)
numbers_sized n f = record { size_m = table_length 0 n _; size_e = table_length (pos 0) n _ }

-- ---- what the elimination left, by the definitions of the contract

module _ {c : Rows} {set : ℕ → Bool} (same : (i : ℕ) → i < c.order → set i ≡ set_of c i) where
  module _ {work weights shares : Slices} (r : Ran c set work weights shares) where
    ran_weights : weights ≡ numbers c.order (weights_of c)
    unfolding entries weights_of
    ran_weights = numbers_are (holds_same (set_weights_cong c.order same ops (matrix_of c)) r.weights_are)

    ran_shares : shares ≡ numbers c.order (shares_of c)
    unfolding entries shares_of
    ran_shares = numbers_are (holds_same (set_shares_cong c.order same ops (matrix_of c)) r.shares_are)

  -- the set can be solved
  pub weighable : {r : ℕ} → Sound c → Closed c.order (rate_in c) (set_of c) → AllFitShares ops Fit (set_size c - 1) (set_entries c)
      → r ≡ size c.order set → Weighable c set r
  unfolding entries set_size set_entries
  weighable {r} s o f e =
      let q : r ≡ size c.order (set_of c) = e ∙ size_cong c.order same in
      record { size_is = e; some = omega (arith, closed_size o); fits = rw (q, alone_cong c.order same (matrix_of c)) f }

accurate_cong : {n : ℕ} {rate : Rates} {set : ℕ → Bool} {count : ℕ} {w w' s s' : ℕ → Scaled} → last n set < n → ((i : ℕ) → i < n → w' i ≡ w i)
    → ((i : ℕ) → i < n → s' i ≡ s i) → Accurate n rate set count w s → Accurate n rate set count w' s'
accurate_cong {n} {set = set} b p q h = record {
  weights_scaled = λ i l. rw (p i l) (h.weights_scaled i l);
  shares_scaled = λ i l. rw (q i l) (h.shares_scaled i l);
  weights_outside = λ i l t. p i l ∙ h.weights_outside i l t;
  shares_outside = λ i l t. q i l ∙ h.shares_outside i l t;
  weights_inside = λ i l t e. h.weights_inside i l t (sym (p i l) ∙ e);
  shares_inside = λ i l t e. h.shares_inside i l t (sym (q i l) ∙ e);
  last_weight = p (last n set) b ∙ h.last_weight;
  weights = λ i l. rw (p i l) (h.weights i l);
  shares = λ i l. rw (q i l) (h.shares i l);
}

-- ---- the ways out

module _ {c : Rows} {old : Lent} {r : Result ℕ Refusal} (q : verdict r ≡ solved c (enough_in c.order old)) where
  -- after a refusal nothing has changed
  pub solve_refused : {f : Refusal} → r ≡ Err f → Solved c old r old
  solve_refused {f} t = record {
    answer = q;
    says = rw q (solved_says c old);
    acceptance = (λ h. q ∙ solvable_accepted c old h, λ a. accepted_solvable c old (sym q ∙ a));
    work = rw t;
    weights = rw t;
    shares = rw t;
    the_set = λ k a. absurd (never k a);
    irreducible = as_before c;
    in_range = λ k a. absurd (never k a);
    balancing = λ set o. demands.balancing c.order _ o;
    accurate = λ k a. absurd (never k a);
  }
    where
      never : (k : ℕ) → verdict r ≡ accepts k → ⊥
      never k a = let u : verdict r ≡ verdict (Err f) = ap verdict t in let z : ◌≡◌ {A = ℕ} 0 1 = cc in omega arith

  pub solve_done : {k : ℕ} {set : ℕ → Bool} {new : Lent} → r ≡ Ok k → ((p : ℕ) → get_or c.rates p 0 < 4294967296)
      → ((i : ℕ) → i < c.order → set i ≡ set_of c i) → Ran c set new.work new.weights new.shares
      → Solved c old r (back c.order new old)
  solve_done {k} {new = new} t words same ran = record {
    answer = q;
    says = rw q (solved_says c old);
    acceptance = (λ h. q ∙ solvable_accepted c old h, λ a. accepted_solvable c old (sym q ∙ a));
    work = back_done a h.room.for_work (zeros_sized (n * n)) ran.work;
    weights = weights_left;
    shares = shares_left;
    the_set = λ k p. o;
    irreducible = as_before c;
    in_range = λ k p. ranges.in_range h.accepted.sound words o.closed;
    balancing = λ set o. demands.balancing n _ o;
    accurate = λ k p.
        let b = a in
        let e : count_of c ≡ k = cc in
        rw (← e)
        (accurate_cong (last_below o.closed)
        (numbers_begin n (weights_of c) (verdict r) old.weights h.room.for_weights a weights_left)
        (numbers_begin n (shares_of c) (verdict r) old.shares h.room.for_shares a shares_left)
        (demands.accurate c o.closed (ranges.all_fit h.accepted.sound words o.closed)));
  }
    where
      n : ℕ
      n = c.order

      h : Solvable c old
      h = accepted_solvable c old (sym q ∙ ap verdict t)

      o : OnlyClosed n (rate_in c) (set_of c)
      o = answer_set c h.accepted.sound h.answer

      a : verdict r ≡ accepts (count_of c)
      a = q ∙ solvable_accepted c old h

      weights_left : joined n new.weights old.weights ≡ after_in (verdict r) old.weights (numbers n (weights_of c))
      weights_left = back_done a h.room.for_weights (numbers_sized n _) (ran_weights same ran)

      shares_left : joined n new.shares old.shares ≡ after_in (verdict r) old.shares (numbers n (shares_of c))
      shares_left = back_done a h.room.for_shares (numbers_sized n _) (ran_shares same ran)

-- ---- the slices, cut to the needed places

pub places_cut : {k : ℕ} (s : Slices) → Places k s → Sized k (cut k s)
places_cut s p = cut_sized _ s p.for_m p.for_e

pub runnable : {c : Rows} {l : Lent} {set : ℕ → Bool} {r : ℕ} → Solvable c l → ((p : ℕ) → get_or c.rates p 0 < 4294967296)
    → ((i : ℕ) → i < c.order → set i ≡ set_of c i) → r ≡ size c.order set
    → Weighable c set r × (Square c.order (cut (c.order * c.order) l.work)
    × (Sized c.order (cut c.order l.weights) × Sized c.order (cut c.order l.shares)))
runnable {c} {l} h w same e =
    let o = (answer_set c h.accepted.sound h.answer).closed in
    let z = places_cut l.work h.room.for_work in (
      weighable same h.accepted.sound o (ranges.all_fit h.accepted.sound w o) e,
      (
        record { order = h.accepted.sound.order.high; size_m = z.size_m; size_e = z.size_e },
        (places_cut l.weights h.room.for_weights, places_cut l.shares h.room.for_shares),
      ),
    )
