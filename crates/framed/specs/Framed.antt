-- What a reading of the next file leaves in the buffer, which bytes of the input it took, and which files were handed on.
use Rattle.std.specs.Prelude.{Option, Some, None, List, [], ◌∷◌, ◌++◌, ◌≡◌, ◌≢◌, ◌⊎◌, ℕ, ◌+◌, ◌-◌, ◌*◌, ◌^◌, ◌≤◌, length, take, drop}
use Rattle.std.specs.Io.KnownBytes.{Consumes, IsAtEnd}
use Rattle.framed.specs.declared.Next.{Next}
use Rattle.framed.specs.declared.Next.TheVariants.{File, Cut, End}

-- `&xs[..n]` is in bounds and has n bytes
abbrev pub IsPrefixLen : ℕ → List ℕ → Type 0
IsPrefixLen n xs = (n ≤ length xs) × (n ≡ length (take n xs))

-- a file stands at the beginning, within the buffer, which keeps what it held beyond; at the end of the input nothing changes
abbrev pub Fetched : Next → List ℕ → List ℕ → Type 0
Fetched (File n) old new = IsPrefixLen n new × (drop n new ≡ drop n old)
Fetched Cut old new = Unit
Fetched End old new = new ≡ old

-- what the input has given: a file after its length in two bytes, low byte first; at its end nothing
abbrev pub Taken : Next → Option (List ℕ) → Option (List ℕ) → List ℕ → Type 0
Taken (File n) old new buffer = (low : ℕ) × (high : ℕ) × (n ≡ low + 256 * high) × Consumes old new (low ∷ (high ∷ take n buffer))
Taken Cut old new buffer = Unit
Taken End old new buffer = Consumes old new [] × IsAtEnd new

-- bytes that, where they are known, do not begin with a file of at most so many bytes after its length
abbrev pub NoFile : ℕ → Option (List ℕ) → Type 0
NoFile most None = Unit
NoFile most (Some bytes) = (low high : ℕ) (file more : List ℕ) → length file ≡ low + 256 * high → length file ≤ most → bytes ≢ low ∷ (high ∷ (file ++ more))

-- a file is missed only where there is none that the buffer has room for
abbrev pub Missed : Next → ℕ → Option (List ℕ) → Type 0
Missed (File n) most left = Unit
Missed Cut most left = NoFile most left
Missed End most left = NoFile most left

-- files that the input has given one after the other, each after its length, and what a closure became as each was handed to it
abbrev pub Handed : {F : Type 0} → (F → List ℕ → F → Type 0) → F → Option (List ℕ) → List (List ℕ) → F → Option (List ℕ) → Type 0
Handed called f old [] last new = (f ≡ last) × (old ≡ new)
Handed {F} called f old (file ∷ rest) last new = (next : F) × (between : Option (List ℕ)) × Taken (File (length file)) old between file
    × called f file next × Handed called next between rest last new

-- f was called at each file of the input in order, until none follows that the buffer has room for; but at no more than a loop has turns
abbrev pub HandedAll : {F : Type 0} → (F → List ℕ → F → Type 0) → F → Option (List ℕ) → ℕ → Type 0
HandedAll {F} called f input most = (files : List (List ℕ)) × (last : F) × (rest : Option (List ℕ)) × Handed called f input files last rest
    × (NoFile most rest ⊎ (length files ≡ 2 ^ 64 - 1))
