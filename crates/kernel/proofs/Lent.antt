-- Lent memory that is changed step by step, and what the lender holds at the end. Assumes nothing.
use mathlib.Core.List.{List}
use mathlib.Core.Path.{◌≡◌, refl, ◌∙◌}
use Prim.Native.Nat.{ℕ}
use lib.IntN.{ℤ}
use Rattle.kernel.specs.declared.Numbers.{Numbers}
use Rattle.kernel.specs.declared.Matrix.{Matrix}
use Rattle.kernel.specs.Slices.{Slices, pair}
use Rattle.kernel.specs.Lent.{held, cells, Stored, Rewritten}

pub stored_so : {P Q : Slices → Slices → Type 0} {x x' : Numbers} → Stored P x x' → Q (held x) (held x') → Stored Q x x'
stored_so p q = record { lent_m = p.lent_m; lent_e = p.lent_e; holds = q }

pub stored_on : {P Q R : Slices → Slices → Type 0} {x y z : Numbers} → Stored P x y → Stored Q y z → R (held x) (held z) → Stored R x z
stored_on p q r = record { lent_m = q.lent_m ∙ p.lent_m; lent_e = q.lent_e ∙ p.lent_e; holds = r }

pub stored_none : {P : Slices → Slices → Type 0} {x : Numbers} → P (held x) (held x) → Stored P x x
stored_none p = record { lent_m = refl; lent_e = refl; holds = p }

-- what the lender of both slices holds once they are no longer lent
pub stored_end : {P : Slices → Slices → Type 0} {x x' : Numbers} {m : List ℕ} {e : List ℤ} → Stored P x x' → m ≡ x'.m.now → e ≡ x'.e.now
    → P (held x) (pair m e)
stored_end p a b = rw (a, b) p.holds

-- ---- a matrix

pub rewritten_so : {P Q : Slices → Slices → Type 0} {x x' : Matrix} → Rewritten P x x' → Q (cells x) (cells x') → Rewritten Q x x'
rewritten_so p q = record { same_order = p.same_order; lent_m = p.lent_m; lent_e = p.lent_e; holds = q }

pub rewritten_on : {P Q R : Slices → Slices → Type 0} {x y z : Matrix} → Rewritten P x y → Rewritten Q y z → R (cells x) (cells z) → Rewritten R x z
rewritten_on p q r = record { same_order = q.same_order ∙ p.same_order; lent_m = q.lent_m ∙ p.lent_m; lent_e = q.lent_e ∙ p.lent_e; holds = r }

pub rewritten_none : {P : Slices → Slices → Type 0} {x : Matrix} → P (cells x) (cells x) → Rewritten P x x
rewritten_none p = record { same_order = refl; lent_m = refl; lent_e = refl; holds = p }
