-- The table of worked cases, document 01's as the requests changed them and with theirs, is right, by evaluation of the definitions. Above
-- `scaled` only cases that state bits, here and in `report` and `cleaning`, unfold its sum, product, quotient and conversion. Assumes nothing.
use mathlib.Core.Path.{refl}
use Rattle.basics.specs.Sum.{sum, prod}
use Rattle.scaled.specs.Scaled.{bit_length_up_to, bit_length, is_scaled_at, upward, carried, nearest, rounded_sum, rounded_product, rounded_quotient}
use Rattle.scaled.specs.Scaled.{converted, is_scaled, sum_of, product_of, quotient_of, rate_of}
use Rattle.scaled.specs.Units.{one_number}
use Rattle.basics.specs.Below.{count, all, put}
use Rattle.markov.specs.Weight.{over, led, leads, moves, weight}
use Rattle.markov.specs.Elimination as elimination
use Rattle.markov.specs.Count.{bound_count}
use Rattle.markov.specs.Closed.{size, member, alone, spread, set_weight, set_weights, set_shares}
use Rattle.chain.specs.Rules.{starts_sound, entry_bad, columns_checked, rules_checked, zeros_checked, checked}
use Rattle.chain.specs.Meaning.{rate_in}
use Rattle.reach.specs.Reach.{via}
use Rattle.reach.specs.ClosedSets.{settles, is_lowest, first_lowest, second_lowest, lowest_set}
use Rattle.reach.specs.Answer.{one_closed, answered, set_of}
use Rattle.kernel.specs.Numbers.{plus, times, divided_by}
use Rattle.layout.specs.Forms as forms
use Rattle.layout.specs.Bytes as bytes
use Rattle.file_rules.specs.Verdict as reading
use Rattle.solver.specs.Lent.{enough}
use Rattle.solver.specs.Solve.{entries, set_size, weights_of, shares_of, count_of, solved}
use Rattle.basics.specs.Lists.{table}
use Rattle.worked.specs.Table.{Cases}

pub cases_hold : Cases
unfolding solved enough table weights_of shares_of entries set_size count_of plus times divided_by one_number
    elimination.weights elimination.shares elimination.total elimination.pivot_of elimination.quotient_at elimination.next
    bit_length_up_to bit_length is_scaled_at upward carried nearest rounded_sum rounded_product rounded_quotient converted is_scaled sum_of product_of quotient_of rate_of
    weight over sum prod count put leads led all moves bound_count
    size member alone spread set_weight set_weights set_shares
    checked rules_checked starts_sound columns_checked entry_bad zeros_checked rate_in answered one_closed set_of lowest_set first_lowest second_lowest is_lowest settles via
    forms.form_in forms.order_in bytes.bit_at bytes.short_rate bytes.stored_rate reading.read_verdict reading.file_checked reading.row_checked
    reading.marks_checked reading.rate_checked reading.mark_checked reading.room_to_read
cases_hold = record {
  case_1 = record { accepted = refl; exact_weights_are = refl; weights_are = refl; shares_are = refl };
  case_2 = record { accepted = refl; exact_weights_are = refl; weights_are = refl; shares_are = refl };
  case_2_stored = record { accepted = refl; chain_is = refl; file_is = refl };
  case_1_short = record { accepted = refl; chain_is = refl; file_is = refl };
  case_2_short = record { accepted = refl; chain_is = refl; file_is = refl };
  case_3 = record { accepted = refl; exact_weights_are = refl; weights_are = refl; shares_are = refl };
  case_4 = record { accepted = refl; exact_weights_are = refl; weights_are = refl; shares_are = refl };
  case_5 = refl;
  case_6 = (refl, refl, λ starts columns rates. refl);
  case_6_cleaned = record { accepted = refl; exact_weights_are = refl; weights_are = refl; shares_are = refl };
  case_7 = record { accepted = refl; exact_weights_are = refl; weights_are = refl; shares_are = refl };
  ring = record { accepted = refl; exact_weights_are = refl; weights_are = refl; shares_are = refl };
  case_2_twice = record { accepted = refl; exact_weights_are = refl; weights_are = refl; shares_are = refl };
  order_of_operations = record { accepted = refl; exact_weights_are = refl; weights_are = refl; shares_are = refl };
  bytes_stored = record { accepted = refl; chain_is = refl; file_is = refl };
  bytes_mixed = record { accepted = refl; chain_is = refl; file_is = refl };
  refusal_5 = refl;
  other_slices = (refl, refl, refl, refl, refl);
  order_14_5 = refl;
  order_5_6 = refl;
  refusal_6 = refl;
  traps = refl;
  case_8 = (refl, refl, refl, refl);
  case_9 = (λ starts columns rates. refl, λ starts columns rates. refl, λ starts columns rates. refl);
  case_9_short = (λ starts columns rates. refl, λ starts columns rates. refl, λ starts columns rates. refl);
  refusal_16 = (λ starts columns rates. refl, λ starts columns rates. refl);
}
