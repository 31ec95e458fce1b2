-- 1 to 4, 14, 5 and 6: what `admit` answers at each of its ways out. Assumes nothing.
use mathlib.Core.Bool.{Bool, true, false}
use mathlib.Core.Path.{◌≡◌, refl, sym, ap, subst, ◌∙◌}
use Prim.Native.Nat.{ℕ}
use Rattle.std.specs.Prelude.{Result, Ok, Err}
use Rattle.refusal.specs.declared.ChainReason.TheVariants as chain
use Rattle.refusal.specs.declared.Refusal.{Refusal}
use Rattle.refusal.specs.declared.Refusal.TheVariants.{Chain}
use Rattle.refusal.specs.Table.{Verdict, accepts, refusal, verdict}
use Rattle.markov.specs.Count.{bound_count}
use Rattle.markov.proofs.SameSet.{size_cong}
use Rattle.chain.specs.Rows.{Rows}
use Rattle.chain.specs.Rules.{checked}
use Rattle.reach.specs.Answer.{answered}
use Rattle.solver.specs.Solve.{set_size, count_of, solved}
use Rattle.solver.specs.declared.Found.{Found}
use Rattle.solver.specs.Inner.{bound_of, IsFound, Admitted}

-- what a call gave
pub told : {r : Result ℕ Refusal} {k : ℕ} {v : Verdict ℕ} → r ≡ Ok k → verdict r ≡ v → v ≡ accepts k
told t q = sym q ∙ ap verdict t

module _ (c : Rows) (room : Bool) where
  -- a refusal; it has no set
  refuses_by : {r : Result Found Refusal} {f : Refusal} → r ≡ Err f → refusal f ≡ solved c room → Admitted c room r
  refuses_by {r} {f} t e = record { answer = ap verdict (ap bound_of t) ∙ e; found = λ k a. absurd (never k a) }
    where
      never : (k : Found) → r ≡ Ok k → ⊥
      never k a = let u : Ok k ≡ Err f = sym a ∙ t in cc

  -- 1 to 4 and 14
  pub rules_refuse : {r : Result Found Refusal} {f : Refusal} → refusal f ≡ checked c → r ≡ Err f → Admitted c room r
  unfolding solved
  rules_refuse q t = refuses_by t (rw (sym q))

  module _ {k : ℕ} (passed : checked c ≡ accepts k) where
    -- 5
    pub room_refuses : room ≡ false → Admitted c room (Err (Chain chain.Room))
    unfolding solved
    room_refuses b = refuses_by refl (rw (passed, b))

    -- 6
    pub sets_refuse : {r : Result Found Refusal} {f : Refusal} → room ≡ true → refusal f ≡ answered c → r ≡ Err f → Admitted c room r
    unfolding solved
    sets_refuse b q t = refuses_by t (rw (passed, b, sym q))

    pub none_refuses : {j : ℕ} {found : Found} → room ≡ true → answered c ≡ accepts j → IsFound c found → found.bound ≡ bound_count found.size
        → Admitted c room (Ok found)
    unfolding solved set_size count_of
    none_refuses {found = found} b e is p = record {
      answer = rw (passed, b, e) (ap accepts (p ∙ ap bound_count (is.size_is ∙ size_cong c.order is.members)));
      found = λ f t. let same : found ≡ f = cc in subst (IsFound c) same is;
    }
