-- No text is longer than `longest`. Assumes nothing.
use Prim.Native.Nat.{ℕ, zero, suc, ◌+◌, ◌*◌, ◌^◌, ◌≤◌, ◌<◌}
use mathlib.Core.Logic.{⊎_elim}
use mathlib.Core.Path.{ap}
use native.Mathlib.Nat.{mul-le-mul}
use native.Mathlib.Omega.{arith}
use lib.IntN.{nat_abs}
use lib.ListN.{length, length-append}
use Rattle.markov.specs.Closed.{set_weights, set_shares}
use Rattle.markov.specs.Count.{bound_count}
use Rattle.markov.proofs.CountLaws.{bound_count_formula}
use Rattle.markov.proofs.FitMaps.{all_weights_fit}
use Rattle.markov.proofs.Members.{size_le}
use Rattle.markov.proofs.SetBalance.{spread_all}
use Rattle.scaled.specs.declared.Scaled.{Scaled}
use Rattle.scaled.specs.Scaled.{zero_number}
use Rattle.scaled.proofs.Laws.{mantissa_below}
use Rattle.chain.specs.Rows.{Rows}
use Rattle.chain.specs.Sound.{Sound}
use Rattle.reach.specs.Answer.{set_of}
use Rattle.kernel.specs.Numbers.{ops}
use Rattle.solver.specs.Solve.{set_size, set_entries, weights_of, shares_of, count_of, WellInside, AllInside}
use Rattle.lines.specs.Lines.{state_line, state_lines, answer_lines}
use Rattle.report.specs.Report.{longest}
use Rattle.lines.proofs.LineLaws.{answer_size, header_length, state_length}

-- ---- Zero, and a number well inside the range, have few digits

record Small (x : Scaled) : Type 0 where
  m_small : x.m < 2 ^ 32
  e_small : nat_abs x.e < 100000

small : (x : Scaled) → WellInside x → Small x
small x w = record {
  m_small = mantissa_below x w.scaled;
  e_small = ⊎_elim (λ z. omega (arith, ap (λ (y : Scaled). nat_abs y.e) z)) (λ l. omega arith) w.exponent;
}

zero_small : Small zero_number
zero_small = record { m_small = omega arith; e_small = omega arith }

-- ---- the lines of the states

module _ (weight share : ℕ → Scaled) (n : ℕ) (order : n ≤ 64) (w : (i : ℕ) → i < n → Small (weight i)) (s : (i : ℕ) → i < n → Small (share i)) where
  lines_length : (count i : ℕ) → i + count ≤ n → length (state_lines weight share count i) ≤ 39 * count
  unfolding state_lines
  lines_length zero i l = omega arith
  lines_length (suc count) i l =
      let a = w i (omega arith) in
      let b = s i (omega arith) in
      let this = state_length i (weight i) (share i) (omega arith) a.m_small a.e_small b.m_small b.e_small in
      let rest = lines_length count (i + 1) (omega arith) in
      omega (arith, this, rest, length-append (state_line i (weight i) (share i)) (state_lines weight share count (i + 1)))

-- ---- the bound count

count_small : (n : ℕ) → n ≤ 64 → bound_count n < 1000000
count_small n h =
    let square : n * n ≤ 64 * 64 = mul-le-mul h h in
    let cube : n * n * n ≤ 64 * 64 * 64 = mul-le-mul square h in
    omega (arith, bound_count_formula n, square, cube)

-- ---- the whole text of an accepted chain

pub answer_length : (c : Rows) → Sound c → AllInside c → length (answer_lines c.order (count_of c) (weights_of c) (shares_of c)) ≤ longest
unfolding set_size set_entries weights_of shares_of set_weights set_shares count_of
answer_length c s inside =
    let n = c.order in
    let order : n ≤ 64 = s.order.high in
    let first = header_length n (count_of c) (omega arith) (count_small (set_size c) (omega (arith, size_le n (set_of c)))) in
    let lines =
    lines_length (weights_of c) (shares_of c) n order
    (spread_all (set_of c) zero_number _ Small n zero_small (λ p l. small _ (all_weights_fit ops WellInside _ _ inside.numbers_met.elimination p (omega arith))))
    (spread_all (set_of c) zero_number _ Small n zero_small (λ p l. small _ (inside.numbers_met.shares_fit p (omega arith))))
    n 0 (omega arith) in
    omega (arith, first, lines, answer_size n (count_of c) (weights_of c) (shares_of c))
