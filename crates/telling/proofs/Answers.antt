-- The answer slice: one with room takes the places, a shorter one is kept. Assumes nothing.
use mathlib.Core.Bool.{Bool, cond}
use mathlib.Core.List.{List, ◌++◌}
use mathlib.Core.Path.{◌≡◌, ap, sym, ◌∙◌}
use Prim.Native.Nat.{ℕ, ◌+◌, ◌<◌, ◌≤◌}
use native.Mathlib.Omega.{arith}
use lib.ListN.{length, drop}
use lib.Seq.{sets, sets-eq}
use borrow.Author.Tests.{le-leb, lt-leb}
use Rattle.telling.specs.Answer.{handed}

pub room_put : (a places : List ℕ) → length places ≤ length a → sets a 0 places ≡ handed a places
unfolding handed
room_put a places h = sym (ap (λ (b : Bool). cond b (sets a 0 places) a) (le-leb (length places) (length a) h))

pub none_put : (a places : List ℕ) → length a < length places → a ≡ handed a places
unfolding handed
none_put a places h = sym (ap (λ (b : Bool). cond b (sets a 0 places) a) (lt-leb (length places) (length a) h))

-- places put at the front
pub front_put : (a places : List ℕ) (n : ℕ) → length places ≡ n → n ≤ length a → places ++ drop n a ≡ handed a places
front_put a places n e l =
    let q : 0 + length places ≡ n = omega arith in
    sym (rw q at (sets-eq places a 0 (omega arith))) ∙ room_put a places (omega arith)
