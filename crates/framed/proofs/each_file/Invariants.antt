-- What is handed on from here is handed on from the beginning, a file in each turn.
use Rattle.std.proofs.Common.{ℕ, Option, List, Ok, length, ◌≡◌, ◌+◌}
use Rattle.std.specs.Fn.{CalledAt}
use Rattle.framed.specs.Framed.{Handed}
use Rattle.framed.proofs.each_file.Given as goal

abbrev pub invariant-loop-turn : goal.invariant-loop-turn
invariant-loop-turn g l = goal.F-IsAlwaysCallable g l.f
    × ((rest : List (List ℕ)) (last : _) (left : Option (List ℕ)) → Handed (λ p file q. CalledAt g.F.FnMut p file (Ok tt) q) l.f (g.R.Read.remaining l.from) rest last left
    → (files : List (List ℕ)) × Handed (λ p file q. CalledAt g.F.FnMut p file (Ok tt) q) l.fn.f (g.R.Read.remaining l.fn.from) files last left
    × (length files ≡ l._turn + length rest))
