-- How an answer is handed to C: a number that is returned, and three places of a lent slice, or four where two chains are joined.
use Rattle.std.specs.Prelude.{cond, List, [], ◌∷◌, ◌≡◌, ℕ, leb, length}
use Rattle.std.proofs.lemmas.List.Edits.{sets}
use Rattle.refusal.specs.declared.Line.{Line}
use Rattle.refusal.specs.Table.{Side, of_chain, of_bytes, Verdict, accepts, refuses}
use Rattle.layout.specs.declared.Form.{Form}
use Rattle.layout.specs.Forms.{form_number}
use Rattle.joined.specs.Verdict.{Whose, of_first, of_second, of_joint}

-- the number that is returned: 0, or document 01's number of the refusal
abbrev pub number_of : {A : Type 0} → Verdict A → ℕ
number_of (accepts found) = 0
number_of (refuses side line) = line.number

-- the side at fault: 0 the chain, 1 the stored bytes
abbrev pub side_number : Side → ℕ
side_number of_chain = 0
side_number of_bytes = 1

-- the three places of a refusal: its two places, and the side at fault
abbrev pub refusal_places : Side → Line → List ℕ
refusal_places side line = line.first ∷ line.second ∷ side_number side ∷ []

-- the three places of a solving (the bound count) and of a writing (the number of bytes)
abbrev pub count_places : Verdict ℕ → List ℕ
count_places (accepts count) = count ∷ 0 ∷ 0 ∷ []
count_places (refuses side line) = refusal_places side line

-- the three places of a reading: the order, the number of entries and the number of the form
abbrev pub read_places : Verdict (ℕ × ℕ × Form) → List ℕ
read_places (accepts (order, entries, form)) = order ∷ entries ∷ form_number form ∷ []
read_places (refuses side line) = refusal_places side line

-- which part a refusal is of: 0 the joint chain, 1 the first part, 2 the second part
abbrev pub part_number : Whose → ℕ
part_number of_joint = 0
part_number of_first = 1
part_number of_second = 2

-- the four places of a joining: the number of entries; or a refusal's three places and the part that it is of
abbrev pub join_places : Whose × Verdict ℕ → List ℕ
join_places (whose, accepts entries) = entries ∷ 0 ∷ 0 ∷ 0 ∷ []
join_places (whose, refuses side line) = line.first ∷ line.second ∷ side_number side ∷ part_number whose ∷ []

-- the answer slice at exit: these places stand first and the places beyond keep what they held; a slice shorter than that
-- keeps all it held
unfoldable pub handed : List ℕ → List ℕ → List ℕ
handed old places = cond (leb (length places) (length old)) (sets old 0 places) old

-- what a call returns, and the answer slice at its exit
pub record Told (number : ℕ) (places answer : List ℕ) (r : ℕ) (answer' : List ℕ) : Type 0 where
  pub returned : r ≡ number
  pub answer_is : answer' ≡ handed answer places

-- of a solving and of a writing, of a reading, and of a joining
abbrev pub CountTold : Verdict ℕ → List ℕ → ℕ → List ℕ → Type 0
CountTold v = Told (number_of v) (count_places v)

abbrev pub ReadingTold : Verdict (ℕ × ℕ × Form) → List ℕ → ℕ → List ℕ → Type 0
ReadingTold v = Told (number_of v) (read_places v)

abbrev pub JoiningTold : Whose × Verdict ℕ → List ℕ → ℕ → List ℕ → Type 0
JoiningTold v = Told (number_of v.1) (join_places v)
