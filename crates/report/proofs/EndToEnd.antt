-- What the printing program prints for a file that it accepts: the order, the bound count of its chain's only closed set, and for each
-- state numbers within their bounds of the exact weights, which balance the chain. Assumes nothing.
use mathlib.Core.Bool.{true}
use mathlib.Core.List.{List}
use mathlib.Core.Path.{◌≡◌}
use Prim.Native.Nat.{ℕ, ◌<◌}
use lib.ListN.{get_or}
use Rattle.refusal.specs.Table.{accepts, and_then}
use Rattle.refusal.proofs.VerdictLaws.{accepted_then}
use Rattle.markov.specs.Closed.{OnlyClosed}
use Rattle.chain.specs.Rows.{Rows}
use Rattle.chain.specs.Rules.{checked}
use Rattle.chain.specs.Sound.{Sound}
use Rattle.chain.specs.Meaning.{rate_in}
use Rattle.reach.specs.Answer.{answered, set_of}
use Rattle.reach.proofs.AnswerLaws.{accepted_answer, answer_set}
use Rattle.layout.specs.Bytes.{chain_of}
use Rattle.layout.proofs.Fit.{rates_fit}
use Rattle.file_rules.specs.Sound.{zeros_refused}
use Rattle.file_rules.specs.Verdict.{file_checked}
use Rattle.solver.specs.Solve.{count_of, solved}
use Rattle.solver.proofs.Demands.{balancing, accurate}
use Rattle.solver.proofs.Ranges.{all_fit}
use Rattle.report.specs.Report.{solved_text, report_of, Printed}

-- ---- the text

-- a chain that solving accepts, where the lent slices suffice
admitted : (c : Rows) {K : ℕ} → solved c true ≡ accepts K → Sound c × OnlyClosed c.order (rate_in c) (set_of c) × (K ≡ count_of c)
unfolding solved
admitted c {K} h =
    let r = accepted_then (checked c) (λ _. and_then (answered c) (λ _. accepts (count_of c))) K h in
    let a = accepted_then (answered c) (λ _. accepts (count_of c)) K r.2 in
    let e : ◌≡◌ {A = ℕ} K (count_of c) = (let q = a.2 in cc) in
    let s = accepted_answer c a.1 in
    (s.0.sound, answer_set c s.0.sound s.1, e)

-- for every file of bytes that the program accepts
pub end_to_end : (bytes : List ℕ) → ((i : ℕ) → get_or bytes i 0 < 256) → {e K : ℕ} → file_checked zeros_refused bytes ≡ accepts e → solved (chain_of bytes) true ≡ accepts K
    → Printed bytes K
unfolding report_of solved_text
end_to_end bytes fit {K = K} p q =
    let c = chain_of bytes in
    let a = admitted c q in
    let n = c.order in
    record {
      text = rw (p, q);
      count = a.2;
      the_set = a.1;
      balances = balancing n (rate_in c) a.1;
      bounds = rw a.2 (accurate c a.1.closed (all_fit a.0 (rates_fit bytes fit) a.1.closed));
    }
