-- The two searches, one after the other. Assumes nothing.
use Prim.Native.Nat.{ℕ, ◌+◌, ◌<◌, ◌≤◌}
use mathlib.Core.Bool.{Bool}
use mathlib.Core.Path.{◌≡◌, sym, ap, ◌∙◌}
use native.Mathlib.Omega.{arith}
use borrow.Author.Rules.{rules}
use Rattle.std.specs.Prelude.{Some}
use Rattle.std.proofs.lemmas.Option.{same_Some}
use Rattle.basics.specs.First.{first}
use Rattle.basics.proofs.FoundLaws.{found_yes, found_some, found_none}
use Rattle.reach.specs.Reach.{bits}
use Rattle.reach.specs.ClosedSets.{is_lowest, first_lowest, second_lowest, lowest_set}
use Rattle.reach.proofs.AnswerLaws.{places_refused, places_none}
use Rattle.reach.proofs.answer_from.Goals as goal

-- the first search finds a state
low : (c : goal.After-next_lowest) → c.next_lowest.result ≡ Some (first_lowest c.args.n (bits c.args.masks.rows))
unfolding first_lowest
low c = c.next_lowest.ensures ∙ found_yes _ _ _ c.requires.1

is_first : (c : goal.After-unwrap-first) → c.unwrap-first.result ≡ first_lowest c.args.n (bits c.args.masks.rows)
is_first c = same_Some _ _ (sym c.unwrap-first.ensures ∙ low c.before)

pub unwrap-first-requires : goal.unwrap-first-requires
unwrap-first-requires c = rw (low c)

-- what the first reaches
set_is : (n : ℕ) (reached : ℕ → ℕ → Bool) {x : ℕ} → x ≡ first_lowest n reached → (i : ℕ) → reached x i ≡ lowest_set n reached i
unfolding lowest_set
set_is n reached p i = ap (λ (x : ℕ). reached x i) p

-- what the second search gives, from the first
second_is : (n : ℕ) (reached : ℕ → ℕ → Bool) {x : ℕ} → x ≡ first_lowest n reached → first (is_lowest n reached) (x + 1) n ≡ second_lowest n reached
unfolding second_lowest
second_is n reached p = ap (λ (x : ℕ). first (is_lowest n reached) (x + 1) n) p

pub returns-in-Some : goal.returns-in-Some
returns-in-Some c =
    let a = c.args in
    let p = is_first c.before.before.before in
    let k : (c.in-Some.second ≡ first (is_lowest a.n (bits a.masks.rows)) (c.unwrap-first.result + 1) a.n) × (c.in-Some.second < a.n) =
    found_some _ _ _ _ (sym c.next_lowest-2.ensures ∙ c.in-Some.is) in
    (places_refused _ _ _ _ _ k.1 p (k.0 ∙ second_is a.n (bits a.masks.rows) p), set_is a.n (bits a.masks.rows) p)

pub returns-in-None : goal.returns-in-None
returns-in-None c =
    let a = c.args in
    let p = is_first c.before.before.before in
    let l : c.unwrap-first.result + 1 ≤ a.n = omega (arith, p, c.requires.1) in
    let k = found_none _ _ _ l (sym c.next_lowest-2.ensures ∙ c.in-None.is) in
    (places_none _ _ _ a.n (omega arith) (sym k ∙ second_is a.n (bits a.masks.rows) p), set_is a.n (bits a.masks.rows) p)

pub overflow_add-first : goal.overflow_add-first
overflow_add-first c = omega (arith, is_first c.before, c.requires.1, c.requires.0)

pub next_lowest-requires-2 : goal.next_lowest-requires-2
next_lowest-requires-2 c = (omega (arith, is_first c.before, c.requires.1), c.requires.0, search rules)

pub offset_bounds-rows-first : goal.offset_bounds-rows-first
offset_bounds-rows-first c = omega (arith, is_first c, c.requires.1, c.requires.0)

pub bounds-rows-first : goal.bounds-rows-first
bounds-rows-first c = omega (arith, is_first c, c.requires.1, c.requires.0)
