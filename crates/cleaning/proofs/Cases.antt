-- What the cleaning program writes for a few files, and the texts of an old file and of its cleaned twin, by evaluation of the definitions.
-- Like the table of the worked cases it unfolds the operations on scaled numbers, since it states digits. Assumes nothing.
use mathlib.Core.List.{List, [], ◌∷◌}
use mathlib.Core.Path.{◌≡◌, refl}
use Prim.Native.Nat.{ℕ}
use Rattle.basics.specs.Sum.{sum}
use Rattle.basics.specs.Below.{count, all}
use Rattle.scaled.specs.Scaled.{bit_length, is_scaled_at, upward, carried, nearest, rounded_sum, rounded_quotient, converted, sum_of, quotient_of, rate_of}
use Rattle.scaled.specs.Units.{one_number}
use Rattle.markov.specs.Closed.{size, member, alone, spread, set_weights, set_shares}
use Rattle.markov.specs.Elimination as elimination
use Rattle.markov.specs.Count.{bound_count}
use Rattle.chain.specs.Rules.{starts_sound, entry_bad, columns_checked, rules_checked, zeros_checked, checked}
use Rattle.chain.specs.Meaning.{rate_in}
use Rattle.reach.specs.Reach.{via}
use Rattle.reach.specs.ClosedSets.{settles, is_lowest, first_lowest, second_lowest, lowest_set}
use Rattle.reach.specs.Answer.{one_closed, answered, set_of}
use Rattle.kernel.specs.Numbers.{plus, divided_by}
use Rattle.layout.specs.Forms.{form_in, order_in}
use Rattle.layout.specs.Bytes.{bit_at, short_rate, stored_rate}
use Rattle.file_rules.specs.Verdict.{file_checked, row_checked, rate_checked, marks_checked, mark_checked}
use Rattle.solver.specs.Solve.{entries, set_size, weights_of, shares_of, count_of, solved}
use Rattle.decimal.specs.Decimal.{decimal_digits, decimal, signed}
use Rattle.lines.specs.Lines.{header_line, state_line, state_lines}
use Rattle.refused.specs.Refused.{refused_line}
use Rattle.report.specs.Report.{solved_text, report_of}
use Rattle.cleaned.specs.Cleaned.{cleaned}
use Rattle.cleaning.specs.WithZeros.{answered_with_zeros, solved_with_zeros, solved_text_with_zeros, report_of_with_zeros}
use Rattle.cleaning.specs.Cleaning.{clean_of}

-- the old file of case 6, "n = 2, 0 to 1 rate 0, 1 to 0 rate 5", 02 02 00 00 00 00 01 05 00 00 00
abbrev pub old6 : List ℕ
old6 = 2 ∷ 2 ∷ 0 ∷ 0 ∷ 0 ∷ 0 ∷ 1 ∷ 5 ∷ 0 ∷ 0 ∷ 0 ∷ []

abbrev new6 : List ℕ
new6 = 2 ∷ 0 ∷ 1 ∷ 5 ∷ 0 ∷ 0 ∷ 0 ∷ []

pub case_6 : clean_of old6 ≡ new6
unfolding clean_of file_checked row_checked marks_checked rate_checked mark_checked form_in order_in bit_at short_rate stored_rate cleaned
case_6 = refl

-- "states 2 bound 0", "0 2147483648 -31 2147483648 -31" and "1 0 0 0 0"
abbrev text6 : List ℕ
text6 =
    115 ∷ 116 ∷ 97 ∷ 116 ∷ 101 ∷ 115 ∷ 32 ∷ 50 ∷ 32 ∷ 98 ∷ 111 ∷ 117 ∷ 110 ∷ 100 ∷ 32 ∷ 48 ∷ 10
    ∷ 48 ∷ 32 ∷ 50 ∷ 49 ∷ 52 ∷ 55 ∷ 52 ∷ 56 ∷ 51 ∷ 54 ∷ 52 ∷ 56 ∷ 32 ∷ 45 ∷ 51 ∷ 49
    ∷ 32 ∷ 50 ∷ 49 ∷ 52 ∷ 55 ∷ 52 ∷ 56 ∷ 51 ∷ 54 ∷ 52 ∷ 56 ∷ 32 ∷ 45 ∷ 51 ∷ 49 ∷ 10
    ∷ 49 ∷ 32 ∷ 48 ∷ 32 ∷ 48 ∷ 32 ∷ 48 ∷ 32 ∷ 48 ∷ 10 ∷ []

-- the old file by the rules until R-5, and the cleaned one by today's
pub texts_6 : (report_of_with_zeros old6 ≡ text6) × (report_of new6 ≡ text6)
unfolding report_of solved_text solved answered checked zeros_checked report_of_with_zeros solved_text_with_zeros solved_with_zeros answered_with_zeros
    header_line state_line state_lines signed decimal decimal_digits
    weights_of shares_of count_of set_size entries plus divided_by one_number
    size member alone spread set_weights set_shares count
    elimination.weights elimination.shares elimination.total
    bit_length is_scaled_at upward carried nearest rounded_sum rounded_quotient converted sum_of quotient_of rate_of
    all bound_count rules_checked starts_sound columns_checked entry_bad rate_in via sum
    one_closed set_of first_lowest second_lowest lowest_set is_lowest settles
    bit_at short_rate stored_rate file_checked row_checked marks_checked rate_checked mark_checked form_in order_in
texts_6 = (refl, refl)

-- two states that no positive rate leaves: cleaned too, and 6 stays 6 with its places, "refused 6 0 1"
abbrev old_none : List ℕ
old_none = 2 ∷ 2 ∷ 0 ∷ 0 ∷ 0 ∷ 0 ∷ 1 ∷ 0 ∷ 0 ∷ 0 ∷ 0 ∷ []

pub no_answer : (clean_of old_none ≡ 2 ∷ 0 ∷ 0 ∷ []) × (report_of_with_zeros old_none ≡ report_of (2 ∷ 0 ∷ 0 ∷ []))
unfolding clean_of cleaned report_of solved_text solved answered checked zeros_checked report_of_with_zeros solved_text_with_zeros solved_with_zeros answered_with_zeros
    all rules_checked starts_sound columns_checked entry_bad rate_in via sum one_closed first_lowest second_lowest is_lowest settles
    bit_at short_rate stored_rate file_checked row_checked marks_checked rate_checked mark_checked form_in order_in
no_answer = (refl, refl)

-- three states, rows of 2, 1 and 2 entries: 0 to 1 rate 0, 0 to 2 rate 256, 1 to 0 rate 7, 2 to 0 rate 1, 2 to 1 rate 0
pub three_states : clean_of (3 ∷ 6 ∷ 0 ∷ 0 ∷ 0 ∷ 0 ∷ 0 ∷ 1 ∷ 0 ∷ 0 ∷ 1 ∷ 7 ∷ 0 ∷ 0 ∷ 0 ∷ 3 ∷ 1 ∷ 0 ∷ 0 ∷ 0 ∷ 0 ∷ 0 ∷ 0 ∷ 0 ∷ [])
    ≡ 3 ∷ 4 ∷ 0 ∷ 1 ∷ 0 ∷ 0 ∷ 1 ∷ 7 ∷ 0 ∷ 0 ∷ 0 ∷ 1 ∷ 1 ∷ 0 ∷ 0 ∷ 0 ∷ []
unfolding clean_of file_checked row_checked marks_checked rate_checked mark_checked form_in order_in bit_at short_rate stored_rate cleaned
three_states = refl

-- a file that the rules without 14 refuse gets their line: a zero rate and then the end is 8, "refused 8 0 0", and not 14
pub cut_off : clean_of (2 ∷ 2 ∷ 0 ∷ 0 ∷ 0 ∷ 0 ∷ []) ≡ 114 ∷ 101 ∷ 102 ∷ 117 ∷ 115 ∷ 101 ∷ 100 ∷ 32 ∷ 56 ∷ 32 ∷ 48 ∷ 32 ∷ 48 ∷ 10 ∷ []
unfolding clean_of file_checked row_checked marks_checked rate_checked mark_checked form_in order_in bit_at short_rate stored_rate cleaned refused_line decimal decimal_digits
cut_off = refl

-- places that differ, "refused 9 1 2": a bit at n in the second row, behind a zero rate
pub bad_bit_lem : clean_of (2 ∷ 2 ∷ 0 ∷ 0 ∷ 0 ∷ 0 ∷ 4 ∷ []) ≡ 114 ∷ 101 ∷ 102 ∷ 117 ∷ 115 ∷ 101 ∷ 100 ∷ 32 ∷ 57 ∷ 32 ∷ 49 ∷ 32 ∷ 50 ∷ 10 ∷ []
unfolding clean_of file_checked row_checked marks_checked rate_checked mark_checked form_in order_in bit_at short_rate stored_rate cleaned refused_line decimal decimal_digits
bad_bit_lem = refl

-- ---- form 2: "Cleaning keeps a file's form"

-- three states: 0 to 1 rate 0, marked, 0 to 2 rate 70,000, 1 to 0 rate 256, 2 to 1 rate 0, marked
abbrev pub old_short : List ℕ
old_short = 131 ∷ 6 ∷ 2 ∷ 0 ∷ 0 ∷ 112 ∷ 17 ∷ 1 ∷ 0 ∷ 1 ∷ 1 ∷ 0 ∷ 1 ∷ 2 ∷ 2 ∷ 0 ∷ 0 ∷ []

abbrev pub new_short : List ℕ
new_short = 131 ∷ 4 ∷ 0 ∷ 112 ∷ 17 ∷ 1 ∷ 0 ∷ 1 ∷ 1 ∷ 0 ∷ 1 ∷ 0 ∷ 0 ∷ []

-- a marked zero is dropped from both maps and from the rates; what is clean stays
pub short_cleaned : clean_of old_short ≡ new_short
unfolding clean_of file_checked row_checked marks_checked rate_checked mark_checked form_in order_in bit_at short_rate stored_rate cleaned
short_cleaned = refl

pub short_unchanged : clean_of new_short ≡ new_short
unfolding clean_of file_checked row_checked marks_checked rate_checked mark_checked form_in order_in bit_at short_rate stored_rate cleaned
short_unchanged = refl

-- an unmarked zero would be refused without 14 too: "refused 16 0 1"
pub unmarked_zero : clean_of (130 ∷ 2 ∷ 0 ∷ 0 ∷ 0 ∷ 0 ∷ 0 ∷ 1 ∷ 1 ∷ 1 ∷ 0 ∷ [])
    ≡ 114 ∷ 101 ∷ 102 ∷ 117 ∷ 115 ∷ 101 ∷ 100 ∷ 32 ∷ 49 ∷ 54 ∷ 32 ∷ 48 ∷ 32 ∷ 49 ∷ 10 ∷ []
unfolding clean_of file_checked row_checked marks_checked rate_checked mark_checked form_in order_in bit_at short_rate stored_rate cleaned refused_line decimal decimal_digits
unmarked_zero = refl
