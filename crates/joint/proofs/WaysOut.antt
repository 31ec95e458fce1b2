-- What each way out of `join` gives. Assumes nothing.
use mathlib.Core.Path.{◌≡◌, refl, sym, ap, subst, ◌∙◌}
use Prim.Native.Nat.{ℕ, ◌+◌, ◌*◌}
use native.Mathlib.Omega.{arith}
use lib.ListN.{length, take}
use Rattle.basics.proofs.SetsLaws.{take_sets}
use Rattle.refusal.specs.Table.{Verdict, Side, accepts, refuses, refusal}
use Rattle.refusal.specs.declared.Line.{Line}
use Rattle.refusal.specs.declared.Refusal.{Refusal}
use Rattle.chain.specs.Rows.{Rows, rows}
use Rattle.from_rates.specs.FromRates.{from_rates}
use Rattle.layout.specs.Buffers.{Buffers, chain_in}
use Rattle.file_rules.specs.Verdict.{HasRoom}
use Rattle.joined.specs.Joined.{joint_rates, joined, entries_of, JointChain}
use Rattle.joined.specs.Verdict.{Whose, of_joint, join_verdict, Joinable, JoinSays, first_broken, second_broken, order_broken, room_short, joins}
use Rattle.joined.proofs.JoinedLaws.{joined_count, joined_accepted, joint_chain}
use Rattle.joined.proofs.Meaning.{join_says}
use Rattle.std.specs.Prelude.{Result, Ok, Err}
use Rattle.joint.specs.declared.JoinRefusal.{JoinRefusal}
use Rattle.joint.specs.declared.JoinRefusal.TheVariants.{First, Second, Joint}
use Rattle.joint.specs.Joining.{told_joining, Joins}
use Rattle.joint.specs.Inner.{PutRows, RowsPut}

module _ (first second : Rows) (old : Buffers) (r : Result ℕ JoinRefusal)
    (a : told_joining r ≡ join_verdict first second (length old.starts) (length old.columns) (length old.rates)) where
  says : JoinSays first second (length old.starts) (length old.columns) (length old.rates) (told_joining r)
  says = rw a (join_says first second (length old.starts) (length old.columns) (length old.rates))

abbrev count_in : Whose × Verdict ℕ → ℕ
count_in (whose, accepts k) = k
count_in (whose, refuses side line) = 0

not_both : {w w' : Whose} {side : Side} {line : Line} {e : ℕ} → ◌≡◌ {A = Whose × Verdict ℕ} (w, refuses side line) (w', accepts e) → ⊥
not_both {side = side} {line = line} {e = e} p =
    let q : ◌≡◌ {A = Verdict ℕ} (refuses side line) (accepts e) = ap (λ (v : Whose × Verdict ℕ). v.1) p in
    let z : ◌≡◌ {A = ℕ} 0 1 = cc in
    absurd (omega arith)

-- a refusal: nothing is written
module _ (first second : Rows) (old : Buffers) where
  refused : (r : Result ℕ JoinRefusal) → told_joining r ≡ join_verdict first second (length old.starts) (length old.columns) (length old.rates)
      → {w : Whose} (f : Refusal) → told_joining r ≡ (w, refusal f) → Joins first second old r old
  refused r a f q = record {
    answer = a;
    says = says first second old r a;
    starts_are = rw q;
    columns_are = rw q;
    rates_are = rw q;
    joint = λ e p. absurd (not_both (sym q ∙ p));
  }

  pub join_stop : (f : JoinRefusal) → told_joining (Err f) ≡ join_verdict first second (length old.starts) (length old.columns) (length old.rates)
      → Joins first second old (Err f) old
  join_stop (First f) a = refused (Err (First f)) a f refl
  join_stop (Second f) a = refused (Err (Second f)) a f refl
  join_stop (Joint f) a = refused (Err (Joint f)) a f refl

-- what an acceptance says
record Taken (first second : Rows) (old : Buffers) (e : ℕ) : Type 0 where
  count : e ≡ entries_of first second
  parts : Joinable first second
  room : HasRoom (first.order * second.order) (entries_of first second) (length old.starts) (length old.columns) (length old.rates)

module _ (first second : Rows) (old : Buffers) (e : ℕ)
    (a : told_joining (Ok e) ≡ join_verdict first second (length old.starts) (length old.columns) (length old.rates)) where
  done : Taken first second old e
  done = go (of_joint, accepts e) (says first second old (Ok e) a) refl
    where
      go : (v : Whose × Verdict ℕ) → JoinSays first second (length old.starts) (length old.columns) (length old.rates) v
          → v ≡ (of_joint, accepts e) → Taken first second old e
      go v (joins j h) q = record { count = sym (ap count_in q); parts = j; room = h }
      go v (first_broken s) q = absurd (not_both q)
      go v (second_broken p s) q = absurd (not_both q)
      go v (order_broken p s l) q = absurd (not_both q)
      go v (room_short j h) q = absurd (not_both q)

  pub join_parts : Joinable first second
  join_parts = done.parts

  pub join_asks : PutRows (first.order * second.order) (joint_rates first second) old
  unfolding joined
  join_asks =
      let n = joined_count done.parts.first_accepted done.parts.second_accepted in
      record {
        starts_fit = done.room.for_starts;
        columns_fit = omega (arith, n, done.room.for_columns);
        rates_fit = omega (arith, n, done.room.for_rates);
      }

  module _ (new : Buffers) (g : RowsPut (first.order * second.order) (joint_rates first second) old new) where
    -- the joint chain stands at the beginning of the slices
    chain_is : joined first second ≡ chain_in new (first.order * second.order) e
    unfolding joined from_rates
    chain_is =
        let n = first.order * second.order in
        let c = from_rates n (joint_rates first second) in
        let f = (joined_accepted done.parts).sound in
        let m : length c.columns ≡ e = joined_count done.parts.first_accepted done.parts.second_accepted ∙ sym done.count in
        let s : take (n + 1) new.starts ≡ c.starts =
        ap (take (n + 1)) g.starts_are ∙ take_sets old.starts c.starts (n + 1) f.starts_rule.count done.room.for_starts in
        let k : take e new.columns ≡ c.columns =
        ap (take e) g.columns_are ∙ take_sets old.columns c.columns e m (omega (arith, done.count, done.room.for_columns)) in
        let t : take e new.rates ≡ c.rates =
        ap (take e) g.rates_are ∙ take_sets old.rates c.rates e (sym f.lengths ∙ m) (omega (arith, done.count, done.room.for_rates)) in
        sym (λ i. rows n (s i) (k i) (t i))

    pub join_whole : Joins first second old (Ok e) new
    unfolding joined
    join_whole = record {
      answer = a;
      says = says first second old (Ok e) a;
      starts_are = g.starts_are;
      columns_are = g.columns_are;
      rates_are = g.rates_are;
      joint = λ e' p.
          let q : e ≡ e' = ap count_in p in
          subst (λ (x : ℕ). JointChain first second (chain_in new (first.order * second.order) x)) q
          (subst (JointChain first second) chain_is (joint_chain done.parts));
    }
