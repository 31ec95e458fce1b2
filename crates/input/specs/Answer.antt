-- What a program reads, what it puts into its buffer, and what it writes of that.
use Rattle.std.specs.Prelude.{Option, List, ◌≡◌, ℕ, ◌<◌, ◌≤◌, length, take}
use Rattle.std.specs.Borrow.{Bor, MutBor}
use Rattle.std.specs.Io.KnownBytes.{Consumes, IsAtEnd, Appends}
use Rattle.layout.specs.File.{enough_bytes}

-- what a call at bytes and a buffer may answer, and what it leaves in the buffer
abbrev pub Call : Type 1
Call = Bor (List ℕ) → MutBor (List ℕ) → ℕ → MutBor (List ℕ) → Type 0

-- no answer is longer than the buffer
abbrev pub Fits : Call → Type 0
Fits gives = (bytes : Bor (List ℕ)) (buffer : MutBor (List ℕ)) (n : ℕ) (after : MutBor (List ℕ)) → gives bytes buffer n after → n ≤ length after.now

-- The bytes that were read are the whole input, or as many of it as decide; a call at them left its answer in the buffer; and that was written.
pub record Answers (gives : Call) (input rest : Option (List ℕ)) (buffer filled : List ℕ) (written more : Option (List ℕ)) : Type 0 where
  pub bytes : Bor (List ℕ)
  pub read : Consumes input rest bytes.now
  pub whole : length bytes.now < enough_bytes → IsAtEnd rest
  pub lent : MutBor (List ℕ)
  pub lends : lent.now ≡ buffer
  pub count : ℕ
  pub left : MutBor (List ℕ)
  pub leaves : left.now ≡ filled
  pub given : gives bytes lent count left
  pub appended : Appends written more (take count filled)
