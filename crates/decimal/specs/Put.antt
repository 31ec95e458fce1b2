-- What a call that puts a text into a lent buffer leaves there and answers.
use Rattle.std.specs.Prelude.{ℕ, ◌+◌, List, ◌≡◌, length}
use Rattle.std.proofs.lemmas.List.Edits.{sets}

-- the text stands from place `at` on, every other place keeps what it held, and the answer is the place after the text
pub record Puts (out : List ℕ) (at : ℕ) (text after : List ℕ) (next : ℕ) : Type 0 where
  pub out_is : after ≡ sets out at text
  pub next_is : next ≡ at + length text
