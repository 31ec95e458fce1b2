-- Document 02, R-8: the two stored forms of a chain, and where they differ. Form 1 has no second map, and nothing in it is marked.
use Rattle.std.specs.Prelude.{ℕ, ◌-◌, Bool, true, false, cond, ltb}
use Rattle.layout.specs.declared.Form.{Form}
use Rattle.layout.specs.declared.Form.TheVariants.{One, Two}

-- the number of a form
abbrev pub form_number : Form → ℕ
form_number One = 1
form_number Two = 2

-- "Stored form 2 starts with 128 + n": what is put to the order in the first byte
abbrev pub lead : Form → ℕ
lead One = 0
lead Two = 128

-- the form and the order that a first byte tells
unfoldable pub form_in : ℕ → Form
form_in first = cond (ltb 128 first) Two One

unfoldable pub order_in : ℕ → ℕ
order_in first = first - lead (form_in first)

-- "A rate is marked if and only if it is below 65,536"
abbrev pub short : Form → ℕ → Bool
short One rate = false
short Two rate = ltb rate 65536

-- "two bytes if marked and four otherwise"
abbrev pub width : Bool → ℕ
width true = 2
width false = 4
