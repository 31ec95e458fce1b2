-- `tell_part`: the line of the table, the side, and the part. Assumes nothing.
use mathlib.Core.List.{[], ◌∷◌}
use mathlib.Core.Path.{ap, ap₂, ◌∙◌}
use Prim.Native.Nat.{ℕ}
use Rattle.refusal.specs.declared.Line.{Line}
use Rattle.telling.specs.Answer.{handed}
use Rattle.telling.proofs.tell_part.Goals as goal

pub returns : goal.returns
returns c =
    let l = c.listed-line.ensures.line_is in
    record {
      returned = ap (λ (x : Line). x.number) l;
      answer_is = c.put.ensures
          ∙ ap₂ (λ (x : Line) (k : ℕ). handed c.args.answer.now (x.first ∷ x.second ∷ k ∷ c.args.part ∷ [])) l c.side_number.ensures;
    }
