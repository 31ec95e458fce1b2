-- The definition `checked` gives exactly the verdict whose facts hold. Assumes nothing.
use Prim.Native.Nat.{ℕ, ◌<◌, ◌≤◌}
use mathlib.Core.Bool.{Bool, true, false, cond, false≢true}
use mathlib.Core.Path.{◌≡◌, refl, sym, ◌∙◌}
use native.Mathlib.Omega.{arith}
use lib.Dec.{eqb, ltb}
use lib.ListN.{length}
use borrow.Author.Tests.{eqb-true, eqb-false, ltb-true, ltb-false, eq-eqb, ne_eqb}
use Rattle.refusal.specs.Table.{Verdict, Side, accepts, refuses, of_chain, numbered, and_then}
use Rattle.refusal.specs.declared.Line.{Line}
use Rattle.basics.proofs.FirstLaws.{IsFirst, first_is}
use Rattle.basics.proofs.BoolLaws.{by_true, by_false}
use Rattle.chain.specs.Rows.{Rows, begins, ends}
use Rattle.chain.specs.Rules.{order_sound, starts_sound, bad_at, first_bad, row_bad, first_bad_row, columns_checked, rules_checked, zeros_checked, checked}
use Rattle.chain.specs.Sound.{SoundOrder, SoundStarts, SoundEntry, SoundColumns, Sound, Accepted, FirstBroken}
use Rattle.chain.specs.Sound.{Says, order_broken, lengths_broken, starts_broken, columns_broken, rate_zero, all_hold}
use Rattle.chain.proofs.SoundLaws.{order_true, order_of_lem, starts_true, starts_of, entry_false, entry_of}
use Rattle.chain.proofs.RulesLaws.{columns_bad, columns_sound}
use Rattle.chain.proofs.ZeroLaws.{zeros_say, first_zero_is, none_zero_is}
use Rattle.basics.proofs.BoolLaws.{not_so}

-- what a verdict of 1 to 4 alone says: a rule is broken, or all are kept
data RulesSay (c : Rows) : Verdict ℕ → Type 0 where
  broken : {side : Side} {line : Line} → Says c (refuses side line) → RulesSay c (refuses side line)
  kept : Sound c → RulesSay c (accepts (length c.columns))

module _ (c : Rows) (s : SoundStarts c) where
  -- the search of one row
  in_row : (row : ℕ) → row < c.order → IsFirst (bad_at c row) (begins c row) (ends c row) (first_bad c row)
  in_row row l = first_is (bad_at c row) (begins c row) (ends c row) (s.rises row l)

  of_rows : IsFirst (row_bad c) 0 c.order (first_bad_row c)
  of_rows = first_is (row_bad c) 0 c.order (omega arith)

  row_sound : (row : ℕ) → row < c.order → row_bad c row ≡ false → (place : ℕ) → begins c row ≤ place → place < ends c row → SoundEntry c row place
  row_sound row l t place a b =
      let e : ends c row ≤ first_bad c row = ltb-false _ _ t in
      entry_false c row place ((in_row row l).before place a (omega arith))

  -- no row has a bad entry
  columns_none : c.order ≤ first_bad_row c → SoundColumns c
  columns_none h =
      record { entry = λ row place l a b. row_sound row l (of_rows.before row (omega arith) (omega arith)) place a b }

  -- the first bad row and its first bad entry
  columns_first : first_bad_row c < c.order → FirstBroken c (first_bad_row c) (first_bad c (first_bad_row c))
  columns_first l =
      let row = first_bad_row c in
      let f = in_row row l in
      let b : first_bad c row < ends c row = ltb-true _ _ (of_rows.found l) in
      record {
        row_below = l;
        from = f.low;
        to = b;
        broken = λ h. false≢true (sym (entry_of c row _ h) ∙ f.found b);
        rows_before = λ i p m a e. row_sound i (omega arith) (of_rows.before i (omega arith) m) p a e;
        before = λ p a m. entry_false c row p (f.before p a m);
      }

  columns_say : SoundOrder c.order → length c.columns ≡ length c.rates → RulesSay c (columns_checked c)
  unfolding columns_checked
  columns_say o e = go (ltb (first_bad_row c) c.order) refl
    where
      go : (b : Bool) → ltb (first_bad_row c) c.order ≡ b
          → RulesSay c (cond b (refuses of_chain (numbered 4 (first_bad_row c) (first_bad c (first_bad_row c)))) (accepts (length c.columns)))
      go true t = broken (columns_broken o e s (columns_first (ltb-true _ _ t)))
      go false t = kept (record { order = o; lengths = e; starts_rule = s; columns_rule = columns_none (ltb-false _ _ t) })

  -- ---- there is only one first bad entry

  module _ {row place i p : ℕ} (h : FirstBroken c row place) (k : FirstBroken c i p) where
    not_lower : i < row → ⊥
    not_lower l = k.broken (h.rows_before i p l k.from k.to)

    not_left : i ≡ row → p < place → ⊥
    not_left e l = let k' : FirstBroken c row p = rw (← e) k in k'.broken (h.before p k'.from l)

  first_row : {row place i p : ℕ} → FirstBroken c row place → FirstBroken c i p → row ≡ i
  first_row h k = omega (arith, not_lower h k, not_lower k h)

  first_place : {row place i p : ℕ} → FirstBroken c row place → FirstBroken c i p → place ≡ p
  first_place h k = let e = first_row h k in omega (arith, not_left h k (sym e), not_left k h e)

  columns_broken_is : {row place : ℕ} → FirstBroken c row place → refuses of_chain (numbered 4 row place) ≡ columns_checked c
  columns_broken_is {row} {place} h = go (ltb (first_bad_row c) c.order) refl
    where
      go : (b : Bool) → ltb (first_bad_row c) c.order ≡ b → refuses of_chain (numbered 4 row place) ≡ columns_checked c
      go true t =
          let k = columns_first (ltb-true _ _ t) in
          let e = first_row h k in
          columns_bad c row place h.row_below e (rw (← e) at (first_place h k))
      go false t = absurd (h.broken ((columns_none (ltb-false _ _ t)).entry row place h.row_below h.from h.to))

  columns_sound_is : SoundColumns c → accepts (length c.columns) ≡ columns_checked c
  columns_sound_is h = go (ltb (first_bad_row c) c.order) refl
    where
      go : (b : Bool) → ltb (first_bad_row c) c.order ≡ b → accepts (length c.columns) ≡ columns_checked c
      go true t = let k = columns_first (ltb-true _ _ t) in absurd (k.broken (h.entry _ _ k.row_below k.from k.to))
      go false t = columns_sound c (first_bad_row c) (ltb-false _ _ t) refl

module _ (c : Rows) where
  -- ---- 1 to 4

  rules_say : RulesSay c (rules_checked c)
  unfolding rules_checked
  rules_say = at_order (order_sound c.order) refl
    where
      at_starts : SoundOrder c.order → length c.columns ≡ length c.rates
          → (b : Bool) → starts_sound c.order c.starts (length c.columns) ≡ b
          → RulesSay c (cond b (columns_checked c) (refuses of_chain (numbered 3 0 0)))
      at_starts o e true t = columns_say c (starts_true c t) o e
      at_starts o e false t = broken (starts_broken o e (λ s. false≢true (sym t ∙ starts_of c s)))

      rest : Verdict ℕ
      rest = cond (starts_sound c.order c.starts (length c.columns)) (columns_checked c) (refuses of_chain (numbered 3 0 0))

      at_lengths : SoundOrder c.order → (b : Bool) → eqb (length c.columns) (length c.rates) ≡ b
          → RulesSay c (cond b rest (refuses of_chain (numbered 2 0 0)))
      at_lengths o true t = at_starts o (eqb-true _ _ t) _ refl
      at_lengths o false t = broken (lengths_broken o (eqb-false _ _ t))

      at_order : (b : Bool) → order_sound c.order ≡ b
          → RulesSay c (cond b (cond (eqb (length c.columns) (length c.rates)) rest (refuses of_chain (numbered 2 0 0))) (refuses of_chain (numbered 1 0 0)))
      at_order true t = at_lengths (order_true _ t) _ refl
      at_order false t = broken (order_broken (λ o. false≢true (sym t ∙ order_of_lem _ o)))

  -- a chain keeps the rules 1 to 4 if and only if they refuse it not
  pub sound_rules : Sound c → rules_checked c ≡ accepts (length c.columns)
  unfolding rules_checked
  sound_rules h =
      sym
      (by_true _ _ (order_of_lem _ h.order)
      (by_true _ _ (eq-eqb _ _ h.lengths)
      (by_true _ _ (starts_of c h.starts_rule) (columns_sound_is c h.starts_rule h.columns_rule))))

  pub rules_sound : {k : ℕ} → rules_checked c ≡ accepts k → Sound c
  rules_sound {k} e = of_say (rules_checked c) rules_say e
    where
      of_say : (v : Verdict ℕ) → RulesSay c v → v ≡ accepts k → Sound c
      of_say v (kept h) q = h
      of_say v (broken h) q = let z : ◌≡◌ {A = ℕ} 0 1 = cc in absurd (omega arith)

  -- ---- and 14

  -- what the verdict says of the chain holds
  pub checked_says : Says c (checked c)
  unfolding checked
  checked_says = go (rules_checked c) rules_say
    where
      go : (v : Verdict ℕ) → RulesSay c v → Says c (and_then v (λ _. zeros_checked c))
      go v (broken h) = h
      go v (kept h) = zeros_say c h

  -- both promises of the check from the first
  pub check_means : {v : Verdict ℕ} → v ≡ checked c → (v ≡ checked c) × Says c v
  check_means e = (e, rw e checked_says)

  -- a refusal by 1 to 4 is passed on; a chain that keeps them is told by its rates
  pub rules_refused : {side : Side} {line : Line} → refuses side line ≡ rules_checked c → refuses side line ≡ checked c
  unfolding checked
  rules_refused e = rw (← e)

  pub rules_kept : {k : ℕ} → rules_checked c ≡ accepts k → {v : Verdict ℕ} → v ≡ zeros_checked c → v ≡ checked c
  unfolding checked
  rules_kept e q = rw e q

  -- a verdict whose facts hold is the verdict
  pub says_checked : {v : Verdict ℕ} → Says c v → v ≡ checked c
  unfolding rules_checked
  says_checked (order_broken h) = rules_refused (by_false _ _ (not_so _ (λ t. h (order_true _ t))) refl)
  says_checked (lengths_broken o h) = rules_refused (by_true _ _ (order_of_lem _ o) (by_false _ _ (ne_eqb _ _ h) refl))
  says_checked (starts_broken o e h) =
      rules_refused (by_true _ _ (order_of_lem _ o) (by_true _ _ (eq-eqb _ _ e) (by_false _ _ (not_so _ (λ t. h (starts_true c t))) refl)))
  says_checked (columns_broken o e s h) =
      rules_refused (by_true _ _ (order_of_lem _ o) (by_true _ _ (eq-eqb _ _ e) (by_true _ _ (starts_of c s) (columns_broken_is c s h))))
  says_checked (rate_zero s h) = rules_kept (sound_rules s) (first_zero_is c s h)
  says_checked (all_hold h) = rules_kept (sound_rules h.sound) (none_zero_is c h.positive)

  -- a chain is accepted if and only if all rules hold and every rate is positive
  pub sound_accepted : Accepted c → checked c ≡ accepts (length c.columns)
  sound_accepted h = sym (says_checked (all_hold h))

  pub accepted_whole : {k : ℕ} → checked c ≡ accepts k → Accepted c
  accepted_whole {k} e = of_says (checked c) checked_says e
    where
      of_says : (v : Verdict ℕ) → Says c v → v ≡ accepts k → Accepted c
      of_says v (all_hold h) q = h
      of_says v (order_broken h) q = let z : ◌≡◌ {A = ℕ} 0 1 = cc in absurd (omega arith)
      of_says v (lengths_broken o h) q = let z : ◌≡◌ {A = ℕ} 0 1 = cc in absurd (omega arith)
      of_says v (starts_broken o e h) q = let z : ◌≡◌ {A = ℕ} 0 1 = cc in absurd (omega arith)
      of_says v (columns_broken o e s h) q = let z : ◌≡◌ {A = ℕ} 0 1 = cc in absurd (omega arith)
      of_says v (rate_zero s h) q = let z : ◌≡◌ {A = ℕ} 0 1 = cc in absurd (omega arith)

  pub accepted_sound : {k : ℕ} → checked c ≡ accepts k → Sound c
  accepted_sound e = (accepted_whole e).sound

  pub accepted_count : {k : ℕ} → checked c ≡ accepts k → k ≡ length c.columns
  accepted_count {k} e = let a = sound_accepted (accepted_whole e) in cc
