-- What each field of the contracts of `report` and `clean` says of case 2's file, and of case 6's, which is cleaned, as CasesSolved for `solve`. Assumes
-- nothing.
use mathlib.Core.Bool.{Bool, true}
use mathlib.Core.List.{List, [], ◌∷◌}
use mathlib.Core.Logic.{◌≢◌}
use mathlib.Core.Path.{◌≡◌, refl, sym, ◌∙◌}
use Prim.Native.Nat.{ℕ, ◌*◌, ◌<◌, ◌≤◌}
use borrow.Author.Tests.{le-leb, lt-leb}
use lib.Dec.{lit<}
use lib.ListN.{length, get_or, take}
use lib.Seq.{sets}
use Rattle.basics.specs.Sum.{sum}
use Rattle.basics.specs.Below.{count, all}
use Rattle.refusal.specs.Table.{Side, accepts, refuses, numbered}
use Rattle.refusal.specs.declared.Line.{Line}
use Rattle.scaled.specs.Units.{one_number}
use Rattle.markov.specs.Chain.{Balances}
use Rattle.markov.specs.Closed.{Closed, size}
use Rattle.markov.specs.Count.{bound_count}
use Rattle.chain.specs.Rows.{Rows}
use Rattle.chain.specs.Rules.{starts_sound, entry_bad, columns_checked, rules_checked, zeros_checked, checked}
use Rattle.chain.specs.Meaning.{rate_in}
use Rattle.reach.specs.Reach.{via}
use Rattle.reach.specs.ClosedSets.{settles, is_lowest, first_lowest, second_lowest, lowest_set}
use Rattle.reach.specs.Answer.{one_closed, answered, set_of}
use Rattle.layout.specs.declared.Form.TheVariants.{One}
use Rattle.layout.specs.Forms.{form_in, order_in}
use Rattle.layout.specs.Bytes.{bit_at, stored_rate, form_of, chain_of}
use Rattle.file_rules.specs.Sound.{zeros_taken, zeros_refused}
use Rattle.file_rules.specs.Verdict.{file_checked, row_checked, marks_checked, rate_checked, mark_checked}
use Rattle.solver.specs.Solve.{set_size, weights_of, shares_of, count_of, solved}
use Rattle.group_shares.specs.GroupShares.{group_shares_of}
use Rattle.lines.specs.Lines.{answer_lines}
use Rattle.refused.specs.Refused.{refused_line}
use Rattle.report.specs.Report.{report_of, Printed, Reports}
use Rattle.report.proofs.Cases as report
use Rattle.cleaned.specs.Cleaned.{cleaned}
use Rattle.cleaning.specs.WithZeros.{answered_with_zeros, solved_with_zeros}
use Rattle.cleaning.specs.Cleaning.{clean_of, SameAnswer, CleanedFile, Rewrites}
use Rattle.cleaning.proofs.Cases as cleaning
use Rattle.worked.specs.Table.{chain2, chain6, cleaned6, printed, stored6}
use Rattle.worked.proofs.CasesDemands.{exact_0, exact_1, last_2}

-- ---- printing

-- "states 2 bound 8", "0 2863311531 -33 2147483648 -33" and "1 2147483648 -31 3221225472 -32"
abbrev text2 : List ℕ
text2 =
    115 ∷ 116 ∷ 97 ∷ 116 ∷ 101 ∷ 115 ∷ 32 ∷ 50 ∷ 32 ∷ 98 ∷ 111 ∷ 117 ∷ 110 ∷ 100 ∷ 32 ∷ 56 ∷ 10
    ∷ 48 ∷ 32 ∷ 50 ∷ 56 ∷ 54 ∷ 51 ∷ 51 ∷ 49 ∷ 49 ∷ 53 ∷ 51 ∷ 49 ∷ 32 ∷ 45 ∷ 51 ∷ 51
    ∷ 32 ∷ 50 ∷ 49 ∷ 52 ∷ 55 ∷ 52 ∷ 56 ∷ 51 ∷ 54 ∷ 52 ∷ 56 ∷ 32 ∷ 45 ∷ 51 ∷ 51 ∷ 10
    ∷ 49 ∷ 32 ∷ 50 ∷ 49 ∷ 52 ∷ 55 ∷ 52 ∷ 56 ∷ 51 ∷ 54 ∷ 52 ∷ 56 ∷ 32 ∷ 45 ∷ 51 ∷ 49
    ∷ 32 ∷ 51 ∷ 50 ∷ 50 ∷ 49 ∷ 50 ∷ 50 ∷ 53 ∷ 52 ∷ 55 ∷ 50 ∷ 32 ∷ 45 ∷ 51 ∷ 50 ∷ 10 ∷ []

module _ {out after : List ℕ} {k : ℕ} where
  -- a buffer of 2519 bytes or more has room, one of fewer is kept
  pub text_put : Reports printed out after k → 2519 ≤ length out → after ≡ sets out 0 text2
  text_put s h = rw (le-leb _ _ h, report.printed) at s.out_is

  pub nothing_put : {bytes : List ℕ} → Reports bytes out after k → length out < 2519 → after ≡ out
  nothing_put s h = rw (lt-leb _ _ h) at s.out_is

  pub text_counted : Reports printed out after k → 2519 ≤ length out → k ≡ 81
  text_counted s h = rw (le-leb _ _ h, report.printed) at s.count_is

  pub nothing_counted : {bytes : List ℕ} → Reports bytes out after k → length out < 2519 → k ≡ 0
  nothing_counted s h = rw (lt-leb _ _ h) at s.count_is

  pub count_within : {bytes : List ℕ} → Reports bytes out after k → k ≤ 2519
  count_within s = s.within

  pub first_bytes_suffice : {bytes : List ℕ} → Reports bytes out after k → report_of (take 17154 bytes) ≡ report_of bytes
  first_bytes_suffice s = s.suffices

  pub printed_2 : Reports printed out after k → Printed printed 8
  unfolding solved count_of set_size size count file_checked row_checked marks_checked rate_checked mark_checked form_in order_in bit_at stored_rate
      checked rules_checked starts_sound columns_checked entry_bad zeros_checked rate_in
      answered one_closed set_of first_lowest second_lowest lowest_set is_lowest settles all via sum bound_count
  printed_2 s = s.printed {e = 2} {K = 8} refl refl

-- what is printed of a chain that is solved
module _ {K : ℕ} (p : Printed printed K) where
  pub lines_2 : report_of printed ≡ answer_lines 2 K (weights_of chain2) (shares_of chain2)
  unfolding form_in order_in bit_at stored_rate
  lines_2 = p.text

  pub count_2 : K ≡ 8
  unfolding form_in order_in bit_at stored_rate count_of set_size size set_of lowest_set first_lowest is_lowest settles all via rate_in sum count bound_count
  count_2 = p.count

  pub set_2 : (other : ℕ → Bool) → Closed 2 (rate_in chain2) other → other 0 ≡ true
  unfolding form_in order_in bit_at stored_rate set_of lowest_set first_lowest is_lowest settles all via rate_in sum
  set_2 other c = p.the_set.only other c 0 (lit< tt)

  pub proportion_2 : (w : ℕ → ℕ) → Balances 2 (rate_in chain2) w → w 0 * 3 ≡ w 1 * 1
  unfolding form_in order_in bit_at stored_rate
  proportion_2 w b = rw (exact_0, exact_1) at ((p.balances.unique w b).at 0 1 (lit< tt) (lit< tt))

  pub last_weight_2 : weights_of chain2 1 ≡ one_number
  unfolding form_in order_in bit_at stored_rate
  last_weight_2 = rw last_2 at p.bounds.last_weight

-- ---- cleaning

abbrev new6 : List ℕ
new6 = 2 ∷ 0 ∷ 1 ∷ 5 ∷ 0 ∷ 0 ∷ 0 ∷ []

module _ {out after : List ℕ} {k : ℕ} where
  -- a buffer of 17153 bytes or more has room, one of fewer is kept
  pub file_put : Rewrites stored6 out after k → 17153 ≤ length out → after ≡ sets out 0 new6
  file_put s h = rw (le-leb _ _ h, cleaning.case_6) at s.out_is

  pub no_file_put : {bytes : List ℕ} → Rewrites bytes out after k → length out < 17153 → after ≡ out
  no_file_put s h = rw (lt-leb _ _ h) at s.out_is

  pub file_counted : Rewrites stored6 out after k → 17153 ≤ length out → k ≡ 7
  file_counted s h = rw (le-leb _ _ h, cleaning.case_6) at s.count_is

  pub no_file_counted : {bytes : List ℕ} → Rewrites bytes out after k → length out < 17153 → k ≡ 0
  no_file_counted s h = rw (lt-leb _ _ h) at s.count_is

  pub file_within : {bytes : List ℕ} → Rewrites bytes out after k → k ≤ 17153
  file_within s = s.within

  pub file_bytes_suffice : {bytes : List ℕ} → Rewrites bytes out after k → clean_of (take 17154 bytes) ≡ clean_of bytes
  file_bytes_suffice s = s.suffices

  -- case 2's file is clean
  pub unchanged_2 : Rewrites printed out after k → clean_of printed ≡ printed
  unfolding file_checked row_checked marks_checked rate_checked mark_checked form_in order_in bit_at stored_rate
  unchanged_2 s = s.unchanged {e = 2} refl

  -- a zero rate and then the end is 8; no refusal is 14
  pub cut_off : Rewrites (2 ∷ 2 ∷ 0 ∷ 0 ∷ 0 ∷ 0 ∷ []) out after k → clean_of (2 ∷ 2 ∷ 0 ∷ 0 ∷ 0 ∷ 0 ∷ []) ≡ refused_line (numbered 8 0 0)
  unfolding file_checked row_checked marks_checked rate_checked mark_checked form_in order_in bit_at stored_rate
  cut_off s = (s.turned_away refl).0

  pub never_14 : {bytes : List ℕ} {side : Side} {line : Line} → Rewrites bytes out after k → file_checked zeros_taken bytes ≡ refuses side line → line.number ≢ 14
  never_14 s q = (s.turned_away q).1

  pub cleaned_6 : Rewrites stored6 out after k → CleanedFile stored6
  unfolding file_checked row_checked marks_checked rate_checked mark_checked form_in order_in bit_at stored_rate
  cleaned_6 s = s.file {e = 2} refl

-- what is promised of the cleaned file
module _ (f : CleanedFile stored6) where
  pub accepted_6 : file_checked zeros_refused (clean_of stored6) ≡ accepts 1
  unfolding form_in order_in bit_at stored_rate cleaned
  accepted_6 = f.accepted

  pub chain_6 : chain_of (clean_of stored6) ≡ cleaned6
  unfolding form_in order_in bit_at stored_rate cleaned
  chain_6 = f.chain

  pub form_6 : form_of (clean_of stored6) ≡ One
  unfolding form_in
  form_6 = f.form

  -- the text that the old file had by the rules until R-5
  pub text_6 : report_of (clean_of stored6) ≡ report_of new6
  text_6 = f.text ∙ (cleaning.texts_6).0 ∙ sym (cleaning.texts_6).1

  pub first_byte_6 : get_or (clean_of stored6) 0 0 ≢ 114
  first_byte_6 = f.first_byte

  pub shorter_6 : length (clean_of stored6) ≤ 11
  shorter_6 = f.shorter

  pub again_6 : clean_of (clean_of stored6) ≡ clean_of stored6
  again_6 = f.again

-- and of a chain that solving answers as it did the old one: "0 to 1 rate 0, 1 to 0 rate 5" had weight and share 1 at state 0 and Zero at state 1
module _ {new : Rows} (s : SameAnswer chain6 new) where
  pub order_6 : new.order ≡ 2
  order_6 = s.order

  pub rate_6 : rate_in new 1 0 ≡ 5
  unfolding rate_in sum
  rate_6 = s.rates 1 0 (lit< tt)

  pub answer_6 : solved new true ≡ accepts 0
  unfolding solved_with_zeros answered_with_zeros rules_checked starts_sound columns_checked entry_bad one_closed first_lowest second_lowest is_lowest settles all via rate_in sum
      count_of set_size size set_of lowest_set count bound_count
  answer_6 = s.answer true

  pub count_6 : count_of new ≡ 0
  unfolding count_of set_size size set_of lowest_set first_lowest is_lowest settles all via rate_in sum count bound_count
  count_6 = s.count

  pub weight_6 : weights_of new 1 ≡ weights_of chain6 1
  weight_6 = s.weights 1 (lit< tt)

  pub share_6 : shares_of new 0 ≡ shares_of chain6 0
  share_6 = s.shares 0 (lit< tt)

  -- both states in group 3
  pub group_6 : group_shares_of new (0 ∷ 1 ∷ 3 ∷ []) 3 ≡ group_shares_of chain6 (0 ∷ 1 ∷ 3 ∷ []) 3
  group_6 = s.groups (0 ∷ 1 ∷ 3 ∷ []) 3

pub same_6 : CleanedFile stored6 → SameAnswer chain6 (chain_of (clean_of stored6))
unfolding form_in order_in bit_at stored_rate
same_6 f = f.same
