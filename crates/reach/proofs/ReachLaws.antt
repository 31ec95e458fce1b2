-- The closed masks hold what `reaches` says, and mean `Reaches`. Assumes nothing.
use Prim.Native.Nat.{ℕ, zero, suc, ◌<◌, ◌≤◌}
use mathlib.Core.Bool.{Bool, true, false, ◌&&◌}
use mathlib.Core.List.{List}
use mathlib.Core.Path.{◌≡◌, refl, sym, ap, ◌∙◌}
use native.Mathlib.Omega.{arith}
use lib.Dec.{ltb}
use lib.ListN.{length, get_or}
use borrow.Author.Tests.{lt-ltb, le-ltb, ltb-true, ltb-false, ne_eqb}
use Rattle.refusal.specs.Table.{Verdict, Side, accepts, refuses, refusal}
use Rattle.refusal.specs.declared.Refusal.{Refusal}
use Rattle.refusal.specs.declared.Line.{Line}
use Rattle.markov.specs.Chain.{Rates}
use Rattle.chain.specs.Rows.{Rows}
use Rattle.chain.specs.Rules.{checked}
use Rattle.chain.specs.Sound.{Accepted}
use Rattle.chain.specs.Meaning.{rate_in}
use Rattle.basics.proofs.BoolLaws.{and_no, and_no_first, and_decides, or_no}
use Rattle.chain.proofs.Reading.{checked_says, sound_accepted, accepted_whole}
use Rattle.chain.proofs.RateLaws.{rate_beyond}
use Rattle.reach.specs.Reach.{via, stands, bits, is_accepted, reaches, Hold, ReachMasks}
use Rattle.reach.specs.Inner.{via_below}
use Rattle.reach.specs.ClosedSets.{first_lowest, lowest_set}
use Rattle.reach.specs.Answer.{one_closed, answered, set_of, AnswerSays, rule_broken}
use Rattle.reach.proofs.AnswerLaws.{first_lowest_cong, one_closed_cong, answered_says}
use Rattle.reach.proofs.MaskLaws.{no_bits, zeros, hold_zeros}
use Rattle.reach.proofs.ViaLaws.{via_iff}
use Rattle.reach.proofs.Lowest.{first_below}
use Rattle.reach.proofs.OneClosed.{via_tells}

-- no state below n reaches one that there is not
via_beyond : (n : ℕ) (rate : Rates) → ((i j : ℕ) → i < n → n ≤ j → rate i j ≡ 0) → (k i j : ℕ) → k ≤ n → i < n → n ≤ j → via rate k i j ≡ false
unfolding via
via_beyond n rate z zero i j l a b = or_no _ _ (ne_eqb i j (λ e. omega arith)) (le-ltb 0 (rate i j) (omega (arith, z i j a b)))
via_beyond n rate z (suc k) i j l a b =
    or_no _ _ (via_beyond n rate z k i j (omega arith) a b)
    (and_no (via rate k i k) _ (via_beyond n rate z k k j (omega arith) (omega arith) b))

guarded : (ok from to v : Bool) → ok ≡ true → (from ≡ true → to ≡ false → v ≡ false) → (from && v) ≡ (ok && from && to && v)
guarded ok true true v e h = rw e
guarded ok true false v e h = rw e (h refl refl)
guarded ok false to v e h = rw e

module _ (c : Rows) (masks : List ℕ) where
  pub masks_accepted : Accepted c → Hold masks (via_below c.order (rate_in c) c.order) → Hold masks (reaches c)
  unfolding reaches
  masks_accepted s h =
      record {
        bit = λ i j. h.bit i j
            ∙ guarded _ (ltb i c.order) (ltb j c.order) (via (rate_in c) c.order i j)
            (ap is_accepted (sound_accepted c s))
            (λ a b. via_beyond c.order (rate_in c) (λ p q l m. rate_beyond s.sound p l q m) c.order i j (omega arith) (ltb-true _ _ a) (ltb-false _ _ b));
      }

  -- for states below n the bits say who reaches whom; a mask at n or above is 0, and every mask of a refused chain
  pub masks_mean : Hold masks (reaches c) → ReachMasks c masks
  unfolding reaches
  masks_mean h = record {
    reached = λ s i j a b.
        let e : stands (get_or masks i 0) j ≡ via (rate_in c) c.order i j = h.bit i j ∙ rw (sound_accepted c s, lt-ltb i c.order a, lt-ltb j c.order b) in
        let t = via_iff (rate_in c) c.order i j b in
        (λ x. t.0 (sym e ∙ x), λ r. e ∙ t.1 r);
    none_beyond = λ i l.
        no_bits (get_or masks i 0)
        (λ j. h.bit i j ∙ and_no_first _ _ (and_no_first _ _ (and_no (is_accepted (checked c)) _ (le-ltb i c.order l))));
    none_refused = λ broken i. no_bits (get_or masks i 0) (λ j. h.bit i j ∙ rw (refused (checked c) refl broken));
  }
    where
      refused : (v : Verdict ℕ) → checked c ≡ v → (Accepted c → ⊥) → is_accepted (checked c) ≡ false
      refused (accepts k) e broken = absurd (broken (accepted_whole c e))
      refused (refuses side line) e broken = ap is_accepted e

module _ (c : Rows) where
  -- no bit stands for a refused chain
  pub masks_refused : {side : Side} {line : Line} → checked c ≡ refuses side line → Hold zeros (reaches c)
  unfolding reaches
  masks_refused e = hold_zeros _ (λ i j. rw e)

  -- ---- 1 to 4 and 14, then 6 from the masks; what is computed means what it says

  pub rule_refused : {v : Verdict ℕ} (f : Refusal) → v ≡ checked c → v ≡ refusal f → (v ≡ answered c) × AnswerSays c v
  unfolding answered
  rule_refused f q t =
      let e : checked c ≡ refusal f = sym q ∙ t in
      (rw (t, e), rw t (rule_broken (rw e at (checked_says c))))

  module _ {masks : List ℕ} (s : Accepted c) (h : Hold masks (via_below c.order (rate_in c) c.order)) where
    -- for states below n the masks are `via`
    masks_via : (i j : ℕ) → i < c.order → j < c.order → bits masks i j ≡ via (rate_in c) c.order i j
    masks_via i j a b = h.bit i j ∙ and_decides _ _ (lt-ltb i c.order a)

    pub masks_first : first_lowest c.order (bits masks) < c.order
    masks_first = rw (first_lowest_cong c.order (bits masks) (via (rate_in c) c.order) masks_via) (first_below (via_tells c.order (rate_in c)) s.sound.order.low)

    pub masks_answer : {v : Verdict ℕ} → v ≡ one_closed c.order (bits masks) (length c.columns) → (v ≡ answered c) × AnswerSays c v
    unfolding answered
    masks_answer {v} p = (e, rw e (answered_says c))
      where
        e : v ≡ answered c
        e = rw (sound_accepted c s) (p ∙ one_closed_cong c.order (bits masks) (via (rate_in c) c.order) masks_via _)

    pub masks_set : (i : ℕ) → i < c.order → lowest_set c.order (bits masks) i ≡ set_of c i
    unfolding lowest_set set_of
    masks_set i l =
        masks_via _ i masks_first l
        ∙ ap (λ (x : ℕ). via (rate_in c) c.order x i) (first_lowest_cong c.order (bits masks) (via (rate_in c) c.order) masks_via)
