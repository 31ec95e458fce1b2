-- Where there is room for the longest file, a chain that every call takes is written. Assumes nothing.
use Prim.Native.Nat.{ℕ, ◌≤◌, ◌<◌}
use mathlib.Core.List.{List}
use mathlib.Core.Path.{◌≡◌, refl, sym, ap, ◌∙◌}
use native.Mathlib.Nat.{zero-add}
use native.Mathlib.Omega.{arith}
use borrow.Author.Tests.{le-leb}
use lib.ListN.{length, get_or}
use Rattle.refusal.specs.Table.{accepts, refusal, verdict}
use Rattle.std.specs.Prelude.{Result, Ok, Err}
use Rattle.std.specs.Result.{IsOk}
use Rattle.refusal.specs.declared.Refusal.{Refusal}
use Rattle.chain.specs.Rows.{Rows}
use Rattle.chain.specs.Sound.{Accepted}
use Rattle.chain.proofs.Reading.{sound_accepted}
use Rattle.layout.specs.declared.Form.{Form}
use Rattle.layout.specs.File.{file_of, file_size, longest_file}
use Rattle.file_rules.specs.Sound.{zeros_taken}
use Rattle.storage.specs.Writing.{write_verdict, Written}
use Rattle.storage.proofs.Passes.{file_small_both}
use Rattle.storage.proofs.Calls.{held_size}
use Rattle.storage.proofs.WriteRead.{file_forth}
use Rattle.decimal.specs.Put.{Puts}

module _ {form : Form} {c : Rows} {out out' : List ℕ} {r : Result ℕ Refusal} (w : Written form c out r out') (a : Accepted c)
    (fit : (i : ℕ) → get_or c.rates i 0 < 4294967296) (room : longest_file ≤ length out) where
  size_is : length (file_of form c) ≡ file_size form c.order c.rates
  size_is = let f = file_forth form c a.sound fit in held_size zeros_taken form (file_of form c) c (length c.columns) f f.accepted

  size_low : length (file_of form c) ≤ longest_file
  size_low = file_small_both zeros_taken (file_of form c) _ (file_forth form c a.sound fit).accepted

  written : verdict r ≡ accepts (length (file_of form c))
  unfolding write_verdict
  written =
      let fits = le-leb (file_size form c.order c.rates) (length out) (omega (arith, size_is, size_low)) in
      w.answer ∙ rw (sound_accepted c a, fits, ← size_is)

  pub file_put : {size : ℕ} → r ≡ Ok size → Puts out 0 (file_of form c) out' size × (size ≤ longest_file)
  file_put {size} q =
      let e : accepts size ≡ accepts (length (file_of form c)) = sym (ap verdict q) ∙ written in
      let e' : size ≡ length (file_of form c) = cc in
      (record { out_is = rw written at w.out_is; next_is = e' ∙ sym (zero-add (length (file_of form c))) }, rw e' size_low)

  -- its refusal is never met
  pub is_written : IsOk r
  is_written = go r refl
    where
      go : (q : Result ℕ Refusal) → r ≡ q → IsOk q
      go (Ok size) q = refl
      go (Err f) q =
          let e : refusal f ≡ accepts (length (file_of form c)) = sym (ap verdict q) ∙ written in
          let z : ◌≡◌ {A = ℕ} 0 1 = cc in
          absurd (omega arith)
