-- Document 01, "Chains worked on paper (those marked * go in the proved table)": the single table of the starred cases, 1 to 9, with
-- cases 6 and 7 and the example of refusal 6 as R-3 and R-5 have them; two rows more for R-3, with states outside the set and with two sets, one
-- for R-6, case 2 beside itself, one whose bits tell the order of the operations, one of stored rates of several bytes, those of R-8's form 2, and
-- refusal 5 with its place in the order; and what its rows say, over the definitions that the contracts of the calls cite. `cases_hold` in proofs/Cases.antt proves it.
use Rattle.std.specs.Prelude.{List, [], ◌∷◌, ◌≡◌, ℕ, ◌+◌, ◌*◌, ℤ, pos, neg_ℤ, length}
use Rattle.refusal.specs.Table.{Verdict, accepts, refuses, of_chain, of_bytes, numbered}
use Rattle.refusal.specs.declared.Line.{Line}
use Rattle.scaled.specs.declared.Scaled.{Scaled}
use Rattle.scaled.specs.Scaled.{zero_number, rate_of}
use Rattle.markov.specs.Closed.{set_weight}
use Rattle.markov.specs.Count.{bound_count}
use Rattle.chain.specs.Rows.{Rows, rows}
use Rattle.chain.specs.Meaning.{rate_in}
use Rattle.reach.specs.Answer.{set_of}
use Rattle.layout.specs.declared.Form.{Form}
use Rattle.layout.specs.declared.Form.TheVariants.{One, Two}
use Rattle.layout.specs.Bytes.{chain_of}
use Rattle.file_rules.specs.Sound.{zeros_refused}
use Rattle.file_rules.specs.Verdict.{read_verdict}
use Rattle.layout.specs.File.{file_of}
use Rattle.solver.specs.Lent.{enough}
use Rattle.solver.specs.Solve.{solved, weights_of, shares_of}
use Rattle.basics.specs.Lists.{table}

-- ---- numbers

-- the scaled number (m, e), and the exponent -k
abbrev pub scaled : ℕ → ℤ → Scaled
scaled m e = record { m = m; e = e }

abbrev pub minus : ℕ → ℤ
minus k = neg_ℤ (pos k)

-- ---- what is computed of a chain

-- the answer of solving, with just the needed places lent
abbrev pub answer : Rows → Verdict ℕ
answer c = solved c (enough c.order (c.order * c.order) (c.order * c.order) c.order c.order c.order c.order)

abbrev pub exact_weights : Rows → List ℕ
exact_weights c = table c.order (set_weight c.order (rate_in c) (set_of c))

abbrev pub computed_weights : Rows → List Scaled
computed_weights c = table c.order (weights_of c)

abbrev pub computed_shares : Rows → List Scaled
computed_shares c = table c.order (shares_of c)

-- ---- what a row says

-- this chain is accepted with this bound count; its exact weights, its computed weights and its shares are these
pub record Solves (c : Rows) (bound : ℕ) (exact : List ℕ) (computed taken : List Scaled) : Type 0 where
  pub accepted : answer c ≡ accepts bound
  pub exact_weights_are : exact_weights c ≡ exact
  pub weights_are : computed_weights c ≡ computed
  pub shares_are : computed_shares c ≡ taken

-- solving refuses this chain, with this number and these places
abbrev pub Refuses : Rows → Line → Type 0
Refuses c line = answer c ≡ refuses of_chain line

-- reading refuses these bytes, with this number and these places, whatever the lengths of the lent slices
abbrev pub Unreadable : List ℕ → Line → Type 0
Unreadable bytes line = (starts columns rates : ℕ) → read_verdict zeros_refused bytes starts columns rates ≡ refuses of_bytes line

-- these bytes are read as this chain in this form, into slices of just the needed lengths, and they are its file
pub record Stores (form : Form) (bytes : List ℕ) (c : Rows) : Type 0 where
  pub accepted : read_verdict zeros_refused bytes (c.order + 1) (length c.columns) (length c.rates) ≡ accepts (c.order, length c.columns, form)
  pub chain_is : chain_of bytes ≡ c
  pub file_is : file_of form c ≡ bytes

-- ---- the chains

-- "n = 1, no entries"
abbrev pub chain1 : Rows
chain1 = rows 1 (0 ∷ 0 ∷ []) [] []

-- "n = 2, 0 to 1 rate 3, 1 to 0 rate 1"
abbrev pub chain2 : Rows
chain2 = rows 2 (0 ∷ 1 ∷ 2 ∷ []) (1 ∷ 0 ∷ []) (3 ∷ 1 ∷ [])

-- "Ring 0 to 1 rate 2, 1 to 2 rate 4, 2 to 0 rate 8"
abbrev pub chain3 : Rows
chain3 = rows 3 (0 ∷ 1 ∷ 2 ∷ 3 ∷ []) (1 ∷ 2 ∷ 0 ∷ []) (2 ∷ 4 ∷ 8 ∷ [])

-- "n = 2, 0 to 1 rate 1, 1 to 0 rate 4294967295"
abbrev pub chain4 : Rows
chain4 = rows 2 (0 ∷ 1 ∷ 2 ∷ []) (1 ∷ 0 ∷ []) (1 ∷ 4294967295 ∷ [])

-- "n = 2, 0 to 1 rate 0, 1 to 0 rate 5"
abbrev pub chain6 : Rows
chain6 = rows 2 (0 ∷ 1 ∷ 2 ∷ []) (1 ∷ 0 ∷ []) (0 ∷ 5 ∷ [])

-- and its file, 02 02 00 00 00 00 01 05 00 00 00
abbrev pub stored6 : List ℕ
stored6 = 2 ∷ 2 ∷ 0 ∷ 0 ∷ 0 ∷ 0 ∷ 1 ∷ 5 ∷ 0 ∷ 0 ∷ 0 ∷ []

-- without its entry of rate 0
abbrev pub cleaned6 : Rows
cleaned6 = rows 2 (0 ∷ 0 ∷ 1 ∷ []) (0 ∷ []) (5 ∷ [])

-- "n = 3, 0 to 1 and 1 to 0 and 2 to 0, all rate 1"
abbrev pub chain7 : Rows
chain7 = rows 3 (0 ∷ 1 ∷ 2 ∷ 3 ∷ []) (1 ∷ 0 ∷ 0 ∷ []) (1 ∷ 1 ∷ 1 ∷ [])

-- "n = 2 without entries"
abbrev pub chain0 : Rows
chain0 = rows 2 (0 ∷ 0 ∷ 0 ∷ []) [] []

-- case 3's ring on the states 1, 2 and 4 of five; 0 and 3 are left for good, 0 to 1 rate 1, 0 to 3 rate 2, 3 to 0 and 3 to 4 rate 1
abbrev pub chain_ring : Rows
chain_ring = rows 5 (0 ∷ 2 ∷ 3 ∷ 4 ∷ 6 ∷ 7 ∷ []) (1 ∷ 3 ∷ 2 ∷ 4 ∷ 0 ∷ 4 ∷ 1 ∷ []) (1 ∷ 2 ∷ 2 ∷ 4 ∷ 1 ∷ 1 ∷ 8 ∷ [])

-- two closed sets, 1 with 2, and 3, of five states: 0 to 1, 0 to 3, 1 to 2, 2 to 1, 4 to 3, all rate 1
abbrev pub chain_traps : Rows
chain_traps = rows 5 (0 ∷ 2 ∷ 3 ∷ 4 ∷ 4 ∷ 5 ∷ []) (1 ∷ 3 ∷ 2 ∷ 1 ∷ 3 ∷ []) (1 ∷ 1 ∷ 1 ∷ 1 ∷ 1 ∷ [])

-- case 2 beside itself (document 02, R-6): its state 2i + j has the first part in i and the second in j
abbrev pub chain22 : Rows
chain22 = rows 4 (0 ∷ 2 ∷ 4 ∷ 6 ∷ 8 ∷ []) (1 ∷ 2 ∷ 0 ∷ 3 ∷ 0 ∷ 3 ∷ 1 ∷ 2 ∷ []) (3 ∷ 3 ∷ 1 ∷ 3 ∷ 1 ∷ 3 ∷ 1 ∷ 1 ∷ [])

-- four states with every move: where a sum is taken falling, entry × entry / s stands for entry × t(j), or (entry / s) × entry, a bit of the results is another
abbrev pub chain_order : Rows
chain_order = rows 4 (0 ∷ 3 ∷ 6 ∷ 9 ∷ 12 ∷ []) (1 ∷ 2 ∷ 3 ∷ 0 ∷ 2 ∷ 3 ∷ 0 ∷ 1 ∷ 3 ∷ 0 ∷ 1 ∷ 2 ∷ []) (3 ∷ 4294967294 ∷ 2 ∷ 3 ∷ 2 ∷ 2 ∷ 9 ∷ 5 ∷ 5 ∷ 2 ∷ 3 ∷ 1 ∷ [])

-- two states, the rate from 0 to 1 stored as 01 02 03 04, that back as 05 06 07 08
abbrev pub chain_bytes : Rows
chain_bytes = rows 2 (0 ∷ 1 ∷ 2 ∷ []) (1 ∷ 0 ∷ []) (67305985 ∷ 134678021 ∷ [])

abbrev pub stored_bytes : List ℕ
stored_bytes = 2 ∷ 2 ∷ 1 ∷ 2 ∷ 3 ∷ 4 ∷ 1 ∷ 5 ∷ 6 ∷ 7 ∷ 8 ∷ []

-- in form 2: the rate from 0 to 1 is 513, short, and stored as 01 02; that back is as above
abbrev pub chain_mixed : Rows
chain_mixed = rows 2 (0 ∷ 1 ∷ 2 ∷ []) (1 ∷ 0 ∷ []) (513 ∷ 134678021 ∷ [])

abbrev pub stored_mixed : List ℕ
stored_mixed = 130 ∷ 2 ∷ 2 ∷ 1 ∷ 2 ∷ 1 ∷ 0 ∷ 5 ∷ 6 ∷ 7 ∷ 8 ∷ []

-- "02 02 03 00 00 00 01 01 00 00 00", whose printed lines case 2 refers to
abbrev pub printed : List ℕ
printed = 2 ∷ 2 ∷ 3 ∷ 0 ∷ 0 ∷ 0 ∷ 1 ∷ 1 ∷ 0 ∷ 0 ∷ 0 ∷ []

-- and the same chain in form 2
abbrev pub printed_short : List ℕ
printed_short = 130 ∷ 2 ∷ 2 ∷ 3 ∷ 0 ∷ 1 ∷ 1 ∷ 1 ∷ 0 ∷ []

-- ---- the table

-- solving refuses case 2 by 5 where the lent slices have so many places: m and e for work, then for weights, then for shares
abbrev pub Short : ℕ → ℕ → ℕ → ℕ → ℕ → ℕ → Type 0
Short m e wm we sm se = solved chain2 (enough 2 m e wm we sm se) ≡ refuses of_chain (numbered 5 0 0)

pub record Cases : Type 0 where
  -- "weight 1, that is (2147483648, -31); share the same"
  pub case_1 : Solves chain1 0 (1 ∷ []) (scaled 2147483648 (minus 31) ∷ []) (scaled 2147483648 (minus 31) ∷ [])
  -- "as printed; exact weights 1, 3"
  pub case_2 : Solves chain2 8 (1 ∷ 3 ∷ [])
      (scaled 2863311531 (minus 33) ∷ scaled 2147483648 (minus 31) ∷ [])
      (scaled 2147483648 (minus 33) ∷ scaled 3221225472 (minus 32) ∷ [])
  -- and the bytes of that print
  pub case_2_stored : Stores One printed chain2
  -- R-8: "Stored form 2 starts with 128 + n": case 1 as 81 00 00, and case 2
  pub case_1_short : Stores Two (129 ∷ 0 ∷ 0 ∷ []) chain1
  pub case_2_short : Stores Two printed_short chain2
  -- "weights 4, 2, 1; exact 32, 16, 8; shares (2454267026, -32), (2454267026, -33), (2454267026, -34)"
  pub case_3 : Solves chain3 28 (32 ∷ 16 ∷ 8 ∷ [])
      (scaled 2147483648 (minus 29) ∷ scaled 2147483648 (minus 30) ∷ scaled 2147483648 (minus 31) ∷ [])
      (scaled 2454267026 (minus 32) ∷ scaled 2454267026 (minus 33) ∷ scaled 2454267026 (minus 34) ∷ [])
  -- "weight 0 (4294967295, 0); shares (4294967295, -32) and (2147483648, -63)"
  pub case_4 : Solves chain4 8 (4294967295 ∷ 1 ∷ [])
      (scaled 4294967295 (pos 0) ∷ scaled 2147483648 (minus 31) ∷ [])
      (scaled 4294967295 (minus 32) ∷ scaled 2147483648 (minus 63) ∷ [])
  -- "Rate 3 is (3221225472, -30)."
  pub case_5 : rate_of 3 ≡ scaled 3221225472 (minus 30)
  -- "Case 6 becomes 14, (0, 1)", in the chain and in its file
  pub case_6 : Refuses chain6 (numbered 14 0 1) × (file_of One chain6 ≡ stored6) × Unreadable stored6 (numbered 14 0 1)
  -- its cleaned twin: the closed set is state 0 alone
  pub case_6_cleaned : Solves cleaned6 0 (1 ∷ 0 ∷ []) (scaled 2147483648 (minus 31) ∷ zero_number ∷ []) (scaled 2147483648 (minus 31) ∷ zero_number ∷ [])
  -- accepted since R-3: the closed set has the states 0 and 1
  pub case_7 : Solves chain7 8 (1 ∷ 1 ∷ 0 ∷ [])
      (scaled 2147483648 (minus 31) ∷ scaled 2147483648 (minus 31) ∷ zero_number ∷ [])
      (scaled 2147483648 (minus 32) ∷ scaled 2147483648 (minus 32) ∷ zero_number ∷ [])
  -- as case 3, each number at its state
  pub ring : Solves chain_ring 28 (0 ∷ 32 ∷ 16 ∷ 0 ∷ 8 ∷ [])
      (zero_number ∷ scaled 2147483648 (minus 29) ∷ scaled 2147483648 (minus 30) ∷ zero_number ∷ scaled 2147483648 (minus 31) ∷ [])
      (zero_number ∷ scaled 2454267026 (minus 32) ∷ scaled 2454267026 (minus 33) ∷ zero_number ∷ scaled 2454267026 (minus 34) ∷ [])
  -- exact shares 1/16, 3/16, 3/16, 9/16, the products of 1/4 and 3/4
  pub case_2_twice : Solves chain22 64 (8 ∷ 24 ∷ 24 ∷ 72 ∷ [])
      (scaled 3817748707 (minus 35) ∷ scaled 2863311530 (minus 33) ∷ scaled 2863311531 (minus 33) ∷ scaled 2147483648 (minus 31) ∷ [])
      (scaled 4294967295 (minus 36) ∷ scaled 3221225471 (minus 34) ∷ scaled 3221225472 (minus 34) ∷ scaled 2415919104 (minus 32) ∷ [])
  pub order_of_operations : Solves chain_order 64 (549 ∷ 193273528681 ∷ 154618822652 ∷ 193273528620 ∷ [])
      (scaled 3274912559 (minus 60) ∷ scaled 2147483649 (minus 31) ∷ scaled 3435973832 (minus 32) ∷ scaled 2147483648 (minus 31) ∷ [])
      (scaled 2339223254 (minus 61) ∷ scaled 3067833781 (minus 33) ∷ scaled 2454267021 (minus 33) ∷ scaled 3067833780 (minus 33) ∷ [])
  -- "four bytes each, low byte first"; maps of two bytes are evaluated in crates `layout` and `checking`
  pub bytes_stored : Stores One stored_bytes chain_bytes
  -- "two bytes if marked and four otherwise"
  pub bytes_mixed : Stores Two stored_mixed chain_mixed
  -- 5: "n = 2, one place for weights", and one place less in each of the other slices
  pub refusal_5 : Short 4 4 1 2 2 2
  pub other_slices : Short 3 4 2 2 2 2 × Short 4 3 2 2 2 2 × Short 4 4 2 1 2 2 × Short 4 4 2 2 1 2 × Short 4 4 2 2 2 1
  -- "Solving tries 1 to 7 in that order", with 14 "straight after 4": 14 comes before 5, and 5 before 6
  pub order_14_5 : solved chain6 (enough 2 3 4 2 2 2 2) ≡ refuses of_chain (numbered 14 0 1)
  pub order_5_6 : solved chain0 (enough 2 4 4 2 2 2 1) ≡ refuses of_chain (numbered 5 0 0)
  -- "its example becomes n = 2 without entries, (0, 1)"
  pub refusal_6 : Refuses chain0 (numbered 6 0 1)
  pub traps : Refuses chain_traps (numbered 6 1 3)
  -- "K(1) = 0, K(2) = 8, K(3) = 28, K(64) = 182,784"
  pub case_8 : (bound_count 1 ≡ 0) × (bound_count 2 ≡ 8) × (bound_count 3 ≡ 28) × (bound_count 64 ≡ 182784)
  -- "Order byte 0 and 65: 1. Order byte 64 followed by nothing: 8."
  pub case_9 : Unreadable (0 ∷ []) (numbered 1 0 0) × Unreadable (65 ∷ []) (numbered 1 0 0) × Unreadable (64 ∷ []) (numbered 8 0 0)
  -- the same of form 2: the first bytes 80 and C1, and C0 followed by nothing
  pub case_9_short : Unreadable (128 ∷ []) (numbered 1 0 0) × Unreadable (193 ∷ []) (numbered 1 0 0) × Unreadable (192 ∷ []) (numbered 8 0 0)
  -- 16: "a bit of it without its rate", and "A bit that disagrees with its rate's size"
  pub refusal_16 : Unreadable (130 ∷ 2 ∷ 6 ∷ []) (numbered 16 0 2) × Unreadable (130 ∷ 2 ∷ 0 ∷ 3 ∷ 0 ∷ 0 ∷ 0 ∷ []) (numbered 16 0 1)
