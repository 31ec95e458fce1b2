-- A row while it is filled in: what is still to be put, put on what stands now, gives what the whole row gives. Assumes nothing.
use Prim.Native.Nat.{ℕ, suc, ◌+◌, ◌<◌}
use mathlib.Core.Bool.{Bool, true, false}
use mathlib.Core.List.{List, ◌∷◌}
use mathlib.Core.Path.{◌≡◌, ap, ◌∙◌}
use native.Mathlib.Omega.{arith}
use native.Mathlib.Numerals.{add-one}
use lib.ListN.{length, set, length-set}
use lib.Seq.{sets}
use Rattle.layout.specs.declared.Form.{Form}
use Rattle.layout.specs.Forms.{width}
use Rattle.layout.specs.Bytes.{bit_at, marked, columns_from, stored_columns, stored_rates, row_end, stored_count, rate_at, rates_at, widths}
use Rattle.layout.proofs.Columns.{columns_hit, columns_miss}

pub record Filling (form : Form) (bytes : List ℕ) (n map : ℕ) (columns₀ rates₀ : List ℕ) (p : ℕ) (columns rates : List ℕ) (j q place : ℕ) : Type 0 where
  pub here : q + length (columns_from bytes n map j) ≡ p + stored_count bytes n map
  pub from : place + widths (marked form bytes n map) (columns_from bytes n map j) ≡ row_end form bytes n map
  pub same_columns : length columns ≡ length columns₀
  pub same_rates : length rates ≡ length rates₀
  pub columns_to : sets columns₀ p (stored_columns bytes n map) ≡ sets columns q (columns_from bytes n map j)
  pub rates_to : sets rates₀ p (stored_rates form bytes n map) ≡ sets rates q (rates_at (marked form bytes n map) bytes (columns_from bytes n map j) place)

module _ (form : Form) (bytes : List ℕ) (n map : ℕ) (columns₀ rates₀ : List ℕ) (p : ℕ) where
  module _ (columns rates : List ℕ) (j q place : ℕ) (f : Filling form bytes n map columns₀ rates₀ p columns rates j q place) (l : j < n) where
    pub bit_absent : bit_at bytes map j ≡ false → Filling form bytes n map columns₀ rates₀ p columns rates (j + 1) q place
    bit_absent t =
        let s : columns_from bytes n map j ≡ columns_from bytes n map (j + 1) = columns_miss bytes n map j l t in
        record {
          here = rw s at f.here;
          from = rw s at f.from;
          same_columns = f.same_columns;
          same_rates = f.same_rates;
          columns_to = rw s at f.columns_to;
          rates_to = rw s at f.rates_to;
        }

    -- with the mark of the rate
    module _ (t : bit_at bytes map j ≡ true) (mark : Bool) (m : mark ≡ marked form bytes n map j) where
      after : columns_from bytes n map j ≡ j ∷ columns_from bytes n map (j + 1)
      after = columns_hit bytes n map j l t

      more : length (columns_from bytes n map j) ≡ suc (length (columns_from bytes n map (j + 1)))
      more = ap length after

      wider : widths (marked form bytes n map) (columns_from bytes n map j) ≡ width mark + widths (marked form bytes n map) (columns_from bytes n map (j + 1))
      wider = ap (widths (marked form bytes n map)) after ∙ rw m

      pub bit_put : Filling form bytes n map columns₀ rates₀ p (set columns q j) (set rates q (rate_at mark bytes place)) (j + 1) (q + 1) (place + width mark)
      bit_put =
          record {
            here = omega (arith, f.here, more);
            from = omega (arith, f.from, wider);
            same_columns = length-set columns q j ∙ f.same_columns;
            same_rates = length-set rates q (rate_at mark bytes place) ∙ f.same_rates;
            columns_to = f.columns_to ∙ rw (after, add-one q);
            rates_to = f.rates_to ∙ rw (after, add-one q, m);
          }

-- the same at equal values, as where the ways of a branch meet
pub same_filling : {form : Form} {bytes : List ℕ} {n map : ℕ} {columns₀ rates₀ : List ℕ} {p : ℕ} {columns rates columns' rates' : List ℕ} {j q place q' place' : ℕ}
    → columns' ≡ columns → rates' ≡ rates → q' ≡ q → place' ≡ place
    → Filling form bytes n map columns₀ rates₀ p columns rates j q place → Filling form bytes n map columns₀ rates₀ p columns' rates' j q' place'
same_filling e₁ e₂ e₃ e₄ f = rw (e₁, e₂, e₃, e₄) f
