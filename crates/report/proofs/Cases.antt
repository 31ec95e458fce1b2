-- The texts that document 01 prints, that of case 7 and of refusal 6 as R-3 has them and of case 6 as R-5 has it, byte by byte, by evaluation of the
-- definitions. Like the table of the worked cases, and unlike every other file above `scaled`, it unfolds the definitions of the
-- operations on scaled numbers, since it states digits. Assumes nothing.
use mathlib.Core.List.{List, [], ◌∷◌}
use mathlib.Core.Path.{◌≡◌, refl}
use Prim.Native.Nat.{ℕ, ◌<◌}
use native.Mathlib.Decide.{dec_lt}
use native.Mathlib.Omega.{arith}
use borrow.Author.Tests.{ltb-true}
use lib.Dec.{ltb, lit<}
use lib.ListN.{get_or, get_or-eq_default}
use Rattle.basics.specs.Sum.{sum}
use Rattle.basics.specs.Below.{count, all}
use Rattle.basics.proofs.BoolLaws.{all_at}
use Rattle.scaled.specs.Scaled.{bit_length_up_to, bit_length, is_scaled_at, upward, carried, nearest, rounded_sum, rounded_product, rounded_quotient}
use Rattle.scaled.specs.Scaled.{converted, sum_of, product_of, quotient_of, rate_of}
use Rattle.scaled.specs.Units.{one_number}
use Rattle.markov.specs.Closed.{size, member, alone, spread, set_weights, set_shares}
use Rattle.markov.specs.Elimination as elimination
use Rattle.markov.specs.Count.{bound_count}
use Rattle.chain.specs.Rules.{starts_sound, entry_bad, columns_checked, rules_checked, zeros_checked, checked}
use Rattle.chain.specs.Meaning.{rate_in}
use Rattle.reach.specs.Reach.{via}
use Rattle.reach.specs.ClosedSets.{settles, is_lowest, first_lowest, second_lowest, lowest_set}
use Rattle.reach.specs.Answer.{one_closed, answered, set_of}
use Rattle.kernel.specs.Numbers.{plus, times, divided_by}
use Rattle.layout.specs.Forms.{form_in, order_in}
use Rattle.layout.specs.Bytes.{bit_at, short_rate, stored_rate}
use Rattle.file_rules.specs.Verdict.{file_checked, row_checked, rate_checked, marks_checked, mark_checked}
use Rattle.solver.specs.Solve.{entries, set_size, weights_of, shares_of, count_of, solved}
use Rattle.decimal.specs.Decimal.{decimal_digits, decimal, signed}
use Rattle.lines.specs.Lines.{header_line, state_line, state_lines}
use Rattle.refused.specs.Refused.{refused_line}
use Rattle.report.specs.Report.{solved_text, report_of, Printed}
use Rattle.report.proofs.EndToEnd.{end_to_end}

-- "Cut-off input of case 2, bytes 02 02 03, prints "refused 8 0 0"."
pub cut_off : report_of (2 ∷ 2 ∷ 3 ∷ []) ≡ 114 ∷ 101 ∷ 102 ∷ 117 ∷ 115 ∷ 101 ∷ 100 ∷ 32 ∷ 56 ∷ 32 ∷ 48 ∷ 32 ∷ 48 ∷ 10 ∷ []
unfolding report_of file_checked row_checked marks_checked rate_checked form_in order_in bit_at refused_line decimal decimal_digits
cut_off = refl

-- two places that differ: "n = 2 without entries", bytes 02 00 00, has two closed sets and prints "refused 6 0 1"
pub two_sets : report_of (2 ∷ 0 ∷ 0 ∷ [])
    ≡ 114 ∷ 101 ∷ 102 ∷ 117 ∷ 115 ∷ 101 ∷ 100 ∷ 32 ∷ 54 ∷ 32 ∷ 48 ∷ 32 ∷ 49 ∷ 10 ∷ []
unfolding report_of solved_text solved file_checked row_checked marks_checked form_in order_in bit_at
    checked rules_checked starts_sound columns_checked zeros_checked rate_in answered one_closed first_lowest second_lowest is_lowest settles all via sum
    refused_line decimal decimal_digits
two_sets = refl

-- "Whole, for the bytes 02 02 03 00 00 00 01 01 00 00 00": "states 2 bound 8", "0 2863311531 -33 2147483648 -33" and
-- "1 2147483648 -31 3221225472 -32"
pub printed : report_of (2 ∷ 2 ∷ 3 ∷ 0 ∷ 0 ∷ 0 ∷ 1 ∷ 1 ∷ 0 ∷ 0 ∷ 0 ∷ [])
    ≡ 115 ∷ 116 ∷ 97 ∷ 116 ∷ 101 ∷ 115 ∷ 32 ∷ 50 ∷ 32 ∷ 98 ∷ 111 ∷ 117 ∷ 110 ∷ 100 ∷ 32 ∷ 56 ∷ 10
    ∷ 48 ∷ 32 ∷ 50 ∷ 56 ∷ 54 ∷ 51 ∷ 51 ∷ 49 ∷ 49 ∷ 53 ∷ 51 ∷ 49 ∷ 32 ∷ 45 ∷ 51 ∷ 51
    ∷ 32 ∷ 50 ∷ 49 ∷ 52 ∷ 55 ∷ 52 ∷ 56 ∷ 51 ∷ 54 ∷ 52 ∷ 56 ∷ 32 ∷ 45 ∷ 51 ∷ 51 ∷ 10
    ∷ 49 ∷ 32 ∷ 50 ∷ 49 ∷ 52 ∷ 55 ∷ 52 ∷ 56 ∷ 51 ∷ 54 ∷ 52 ∷ 56 ∷ 32 ∷ 45 ∷ 51 ∷ 49
    ∷ 32 ∷ 51 ∷ 50 ∷ 50 ∷ 49 ∷ 50 ∷ 50 ∷ 53 ∷ 52 ∷ 55 ∷ 50 ∷ 32 ∷ 45 ∷ 51 ∷ 50 ∷ 10 ∷ []
unfolding report_of solved_text header_line state_line state_lines signed decimal decimal_digits
    solved weights_of shares_of count_of set_size entries plus times divided_by one_number
    size member alone spread set_weights set_shares count
    elimination.weights elimination.shares elimination.total elimination.pivot_of elimination.quotient_at
    bit_length_up_to bit_length is_scaled_at upward carried nearest rounded_sum rounded_product rounded_quotient converted sum_of product_of quotient_of rate_of
    all bound_count checked rules_checked starts_sound columns_checked entry_bad zeros_checked rate_in via sum
    answered one_closed set_of first_lowest second_lowest lowest_set is_lowest settles
    bit_at short_rate stored_rate file_checked row_checked marks_checked rate_checked mark_checked form_in order_in
printed = refl

-- "Case 6 becomes 14, (0, 1)": bytes 02 02 00 00 00 00 01 05 00 00 00 print "refused 14 0 1"
pub zero_rate : report_of (2 ∷ 2 ∷ 0 ∷ 0 ∷ 0 ∷ 0 ∷ 1 ∷ 5 ∷ 0 ∷ 0 ∷ 0 ∷ [])
    ≡ 114 ∷ 101 ∷ 102 ∷ 117 ∷ 115 ∷ 101 ∷ 100 ∷ 32 ∷ 49 ∷ 52 ∷ 32 ∷ 48 ∷ 32 ∷ 49 ∷ 10 ∷ []
unfolding report_of file_checked row_checked marks_checked rate_checked mark_checked form_in order_in bit_at short_rate stored_rate refused_line decimal decimal_digits
zero_rate = refl

-- case 7, "n = 3, 0 to 1 and 1 to 0 and 2 to 0, all rate 1", as R-3 has it: "states 3 bound 8", "0 2147483648 -31 2147483648 -32",
-- "1 2147483648 -31 2147483648 -32" and "2 0 0 0 0"
pub zero_outside : report_of (3 ∷ 2 ∷ 1 ∷ 0 ∷ 0 ∷ 0 ∷ 1 ∷ 1 ∷ 0 ∷ 0 ∷ 0 ∷ 1 ∷ 1 ∷ 0 ∷ 0 ∷ 0 ∷ [])
    ≡ 115 ∷ 116 ∷ 97 ∷ 116 ∷ 101 ∷ 115 ∷ 32 ∷ 51 ∷ 32 ∷ 98 ∷ 111 ∷ 117 ∷ 110 ∷ 100 ∷ 32 ∷ 56 ∷ 10
    ∷ 48 ∷ 32 ∷ 50 ∷ 49 ∷ 52 ∷ 55 ∷ 52 ∷ 56 ∷ 51 ∷ 54 ∷ 52 ∷ 56 ∷ 32 ∷ 45 ∷ 51 ∷ 49
    ∷ 32 ∷ 50 ∷ 49 ∷ 52 ∷ 55 ∷ 52 ∷ 56 ∷ 51 ∷ 54 ∷ 52 ∷ 56 ∷ 32 ∷ 45 ∷ 51 ∷ 50 ∷ 10
    ∷ 49 ∷ 32 ∷ 50 ∷ 49 ∷ 52 ∷ 55 ∷ 52 ∷ 56 ∷ 51 ∷ 54 ∷ 52 ∷ 56 ∷ 32 ∷ 45 ∷ 51 ∷ 49
    ∷ 32 ∷ 50 ∷ 49 ∷ 52 ∷ 55 ∷ 52 ∷ 56 ∷ 51 ∷ 54 ∷ 52 ∷ 56 ∷ 32 ∷ 45 ∷ 51 ∷ 50 ∷ 10
    ∷ 50 ∷ 32 ∷ 48 ∷ 32 ∷ 48 ∷ 32 ∷ 48 ∷ 32 ∷ 48 ∷ 10 ∷ []
unfolding report_of solved_text header_line state_line state_lines signed decimal decimal_digits
    solved weights_of shares_of count_of set_size entries plus times divided_by one_number
    size member alone spread set_weights set_shares count
    elimination.weights elimination.shares elimination.total elimination.pivot_of elimination.quotient_at
    bit_length is_scaled_at upward carried nearest rounded_sum rounded_product rounded_quotient converted sum_of product_of quotient_of rate_of
    all bound_count checked rules_checked starts_sound columns_checked entry_bad zeros_checked rate_in via sum
    answered one_closed set_of first_lowest second_lowest lowest_set is_lowest settles
    bit_at short_rate stored_rate file_checked row_checked marks_checked rate_checked mark_checked form_in order_in
zero_outside = refl

-- ---- the closing theorem, of the bytes of `printed`

abbrev two : List ℕ
two = 2 ∷ 2 ∷ 3 ∷ 0 ∷ 0 ∷ 0 ∷ 1 ∷ 1 ∷ 0 ∷ 0 ∷ 0 ∷ []

two_fits : (i : ℕ) → get_or two i 0 < 256
unfolding all
two_fits i = go (dec_lt i 11)
  where
    go : Dec (i < 11) → get_or two i 0 < 256
    go (yes l) = ltb-true _ _ (all_at 11 (λ j. ltb (get_or two j 0) 256) refl i l)
    go (no d) = rw (get_or-eq_default two 0 {n = i} (omega arith)) (lit< tt)

-- its closed set has both states: what is printed for them lies within 8 and 18 factors of exact weights that balance the chain
pub printed_bounds : Printed two 8
unfolding solved count_of set_size size count file_checked row_checked marks_checked rate_checked mark_checked form_in order_in bit_at short_rate stored_rate
    checked rules_checked starts_sound columns_checked entry_bad zeros_checked rate_in
    answered one_closed set_of first_lowest second_lowest lowest_set is_lowest settles all via sum bound_count
printed_bounds = end_to_end two two_fits {e = 2} {K = 8} refl refl
