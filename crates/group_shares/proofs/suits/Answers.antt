-- One test after the other. Assumes nothing.
use mathlib.Core.Path.{◌≡◌, sym, ◌∙◌}
use mathlib.Core.Bool.{true, false}
use Rattle.std.specs.Result.{is_ok}
use Rattle.group_shares.proofs.Admission.{too_many, suits_is}
use Rattle.group_shares.proofs.suits.Goals as goal

pub returns-then-n-gt64 : goal.returns-then-n-gt64
returns-then-n-gt64 c = sym (too_many _ _ _ c.if-n-gt64.true)

pub returns-then-is_ok : goal.returns-then-is_ok
returns-then-is_ok c =
    let t : is_ok c.check_table.result ≡ true = sym c.is_ok.ensures.value ∙ c.if-is_ok.true in
    c.sixteen_places.ensures ∙ sym (suits_is _ _ _ _ c.if-n-gt64.false c.check_table.ensures.computed ∙ rw t)

pub returns-else-is_ok : goal.returns-else-is_ok
returns-else-is_ok c =
    let t : is_ok c.check_table.result ≡ false = sym c.is_ok.ensures.value ∙ c.if-is_ok.false in
    c.if-is_ok.false ∙ sym (suits_is _ _ _ _ c.if-n-gt64.false c.check_table.ensures.computed ∙ rw t)
