-- 1 to 4, 14, 13, 12, 11 and 5: what `suits` and `admit` answer at each of their ways out, and what follows for the whole answer. Assumes
-- nothing.
use mathlib.Core.Bool.{Bool, true, false, false≢true, ◌&&◌, cond}
use mathlib.Core.List.{List}
use mathlib.Core.Path.{◌≡◌, refl, sym, ap, ◌∙◌}
use Prim.Native.Nat.{ℕ, ◌≤◌, ◌<◌}
use native.Mathlib.Omega.{arith}
use borrow.Author.Tests.{le-leb, lt-leb}
use lib.Dec.{leb}
use Rattle.basics.proofs.BoolLaws.{both, and_yes, and_no_first}
use Rattle.std.specs.Prelude.{Result, Ok, Err, is_ok}
use Rattle.refusal.specs.declared.Line.{Line}
use Rattle.refusal.specs.declared.Refusal.{Refusal}
use Rattle.refusal.specs.Table.{Verdict, Side, accepts, refuses, of_chain, numbered, refusal, verdict, and_then}
use Rattle.refusal.proofs.VerdictLaws.{accepted_if, accepted_then}
use Rattle.chain.specs.Rows.{Rows}
use Rattle.chain.specs.Rules.{checked}
use Rattle.chain.proofs.Reading.{accepted_sound}
use Rattle.group_table.specs.Rules.{table_checked}
use Rattle.solver.specs.Solve.{solved}
use Rattle.group_shares.specs.GroupShares.{groups_solved}
use Rattle.group_shares.specs.Inner.{passes, suits, admitted}

-- ---- the ways out of `suits`

module _ (n : ℕ) (table : List ℕ) (room : Bool) where
  pub too_many : 64 < n → suits n table room ≡ false
  unfolding suits
  too_many h = and_no_first _ _ (and_no_first _ _ (lt-leb _ _ h))

  -- the table's answer and the places of the groups decide
  pub suits_is : (r : Result ℕ Refusal) → n ≤ 64 → verdict r ≡ table_checked n table → suits n table room ≡ (is_ok r && room)
  unfolding suits
  suits_is r l q = rw (le-leb n 64 l, ← q) (go r)
    where
      go : (r : Result ℕ Refusal) → (passes (verdict r) && room) ≡ (is_ok r && room)
      go (Ok k) = refl
      go (Err f) = refl

module _ (c : Rows) (table : List ℕ) (room : Bool) where
  -- ---- the ways out of `admit`

  pub rules_refuse : (f : Refusal) → refusal f ≡ checked c → refusal f ≡ admitted c table room
  unfolding admitted
  rules_refuse f q = rw (sym q)

  module _ {k : ℕ} (passed : checked c ≡ accepts k) where
    pub table_refuses : (f : Refusal) → refusal f ≡ table_checked c.order table → refusal f ≡ admitted c table room
    unfolding admitted
    table_refuses f q = rw (passed, sym q)

    module _ {j : ℕ} (fits : table_checked c.order table ≡ accepts j) where
      pub room_refuses : room ≡ false → refuses of_chain (numbered 5 0 0) ≡ admitted c table room
      unfolding admitted
      room_refuses b = rw (passed, fits, b)

      pub none_refuses : room ≡ true → accepts j ≡ admitted c table room
      unfolding admitted
      none_refuses b = rw (passed, fits, b)

  -- ---- the whole answer, where `others` says whether the other slices suffice

  pub refused_then : (others : Bool) {s : Side} {l : Line} → admitted c table room ≡ refuses s l → groups_solved c table (others && room) ≡ refuses s l
  unfolding admitted groups_solved solved
  refused_then others {s} {l} q = go _ (checked c) (table_checked c.order table) others room q
    where
      short : Verdict ℕ
      short = refuses of_chain (numbered 5 0 0)

      go : (x v w : Verdict ℕ) (a b : Bool) → and_then v (λ _. and_then w (λ k. cond b (accepts k) short)) ≡ refuses s l
          → and_then v (λ _. and_then w (λ _. and_then v (λ _. cond (a && b) x short))) ≡ refuses s l
      go x (refuses _ _) w a b q = q
      go x (accepts _) (refuses _ _) a b q = q
      go x (accepts _) (accepts _) a true q = let z : ◌≡◌ {A = ℕ} 0 1 = cc in absurd (omega arith)
      go x (accepts _) (accepts _) true false q = q
      go x (accepts _) (accepts _) false false q = q

  pub record Admitted : Type 0 where
    pub entries : ℕ
    pub rows : ℕ
    pub rules : checked c ≡ accepts entries
    pub table_rules : table_checked c.order table ≡ accepts rows
    pub room_held : room ≡ true

  pub admitted_of : {k : ℕ} → admitted c table room ≡ accepts k → Admitted
  unfolding admitted
  admitted_of {k} q =
      let a = accepted_then (checked c) _ k q in
      let b = accepted_then (table_checked c.order table) _ k a.2 in
      record { entries = a.0; rows = b.0; rules = a.1; table_rules = b.1; room_held = (accepted_if room _ _ _ k b.2).0 }

  -- ---- where the table and the places of the groups pass, solving decides

  pub suited : suits c.order table room ≡ true → (k : ℕ) × (table_checked c.order table ≡ accepts k) × (room ≡ true)
  unfolding suits
  suited h =
      let a = both (leb c.order 64 && passes (table_checked c.order table)) _ h in
      let b = both (leb c.order 64) _ a.0 in
      let t = of_passes (table_checked c.order table) b.1 in
      (t.0, t.1, a.1)
    where
      of_passes : (v : Verdict ℕ) → passes v ≡ true → (k : ℕ) × (v ≡ accepts k)
      of_passes (accepts k) e = (k, refl)
      of_passes (refuses _ _) e = absurd (false≢true e)

  pub solving_decides : (others : Bool) → suits c.order table room ≡ true → groups_solved c table (others && room) ≡ solved c others
  unfolding groups_solved solved
  solving_decides others h =
      let t = suited h in
      rw (t.1, t.2, unit others) (again (checked c) _)
    where
      unit : (b : Bool) → (b && true) ≡ b
      unit true = refl
      unit false = refl

      -- a test tried twice
      again : (v : Verdict ℕ) (next : ℕ → Verdict ℕ) → and_then v (λ _. and_then v next) ≡ and_then v next
      again (accepts k) next = refl
      again (refuses _ _) next = refl

  -- and otherwise `admit` refuses
  pub not_suited : {k : ℕ} → suits c.order table room ≡ false → admitted c table room ≡ accepts k → ⊥
  unfolding suits
  not_suited b q =
      let h = admitted_of q in
      let low = (accepted_sound c h.rules).order.high in
      false≢true (sym b ∙ and_yes _ _ (and_yes _ _ (le-leb _ _ low) (ap passes h.table_rules)) h.room_held)
