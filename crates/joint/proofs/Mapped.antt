-- What `map_err` by a case of `JoinRefusal` gives. Assumes nothing.
use Prim.Native.Nat.{ℕ}
use mathlib.Core.Path.{◌≡◌, refl, sym, ap, ◌∙◌}
use Rattle.std.specs.Prelude.{Result, Ok, Err}
use Rattle.std.specs.Result.{MatchResult, IsErrAnd}
use Rattle.std.proofs.lemmas.Result.{err_from_is_err_and}
use Rattle.refusal.specs.declared.Refusal.{Refusal}
use Rattle.refusal.specs.Table.{verdict}
use Rattle.joined.specs.Verdict.{of_joint}
use Rattle.joint.specs.declared.JoinRefusal.{JoinRefusal}
use Rattle.joint.specs.declared.JoinRefusal.TheVariants.{Joint}
use Rattle.joint.specs.Joining.{told_joining}

ok_or_err : {k : ℕ} {f : JoinRefusal} → ◌≡◌ {A = Result ℕ JoinRefusal} (Ok k) (Err f) → ⊥
ok_or_err e = cc

module _ (g : Refusal → JoinRefusal) where
  abbrev pub Mapped : Result ℕ Refusal → Result ℕ JoinRefusal → Type 0
  Mapped s r = MatchResult s (λ k. r ≡ Ok k) (λ e. IsErrAnd r (λ d. d ≡ g e))

  pub mapped_ok : (s : Result ℕ Refusal) {r : Result ℕ JoinRefusal} {k : ℕ} → Mapped s r → r ≡ Ok k → s ≡ Ok k
  mapped_ok (Ok k) h t = let e = sym h ∙ t in cc
  mapped_ok (Err e) {r} h t = let p = err_from_is_err_and r h in absurd (ok_or_err (sym t ∙ p.1))

  -- the refusal, and what it is made
  pub mapped_err : (s : Result ℕ Refusal) {r : Result ℕ JoinRefusal} {f : JoinRefusal} → Mapped s r → r ≡ Err f
      → (e : Refusal) × (s ≡ Err e) × (r ≡ Err (g e))
  mapped_err (Ok k) h t = absurd (ok_or_err (sym h ∙ t))
  mapped_err (Err e) {r} h t = let p = err_from_is_err_and r h in (e, refl, rw (← p.2) p.1)

-- a refusal of the joint chain is told as it is
pub told_joint : (s : Result ℕ Refusal) (r : Result ℕ JoinRefusal) → Mapped Joint s r → told_joining r ≡ (of_joint, verdict s)
told_joint (Ok k) r h = ap told_joining h
told_joint (Err e) r h = let p = err_from_is_err_and r h in let t : r ≡ Err (Joint e) = rw (← p.2) p.1 in ap told_joining t
