-- The table of cases, every row of it reckoned out by the definitions. Assumes nothing.
use mathlib.Core.Path.{refl}
use lib.Ieee.{sub, mul, div, le, of_int, of_bits, to_signed, to_unsigned}
use Rattle.elementary.specs.Float.{finite, positive, count}
use Rattle.elementary.specs.Reply.{given}
use Rattle.elementary.specs.Checks.{verdict, first_of, first_failing}
use Rattle.elementary.specs.Elementary.{horner, mantissa, exponent, odds, ln_sum, ln_series, ln_join, ln_parts, ln_halved, ln_of, LN, ln1p_of, LN1P, factorials, exp_sum, exp_n, exp_rest, exp_by, exp_of, EXP, ceil_of, CEIL, or_nan}
use Rattle.operator.specs.Vectors.{from, every_from, fold, larger, abs}
use Rattle.operator.specs.Operator.{diagonal_at, left_at, right_at}
use Rattle.plan.specs.Plan.{magnitudes, norm, needed, start, begin, fixed, first_if}
use Rattle.vector.specs.Run.{run_on, run, run_from}
use Rattle.plan.specs.Input.{rates_ok}
use Rattle.vector.specs.Values.{padded, vector_of}
use Rattle.distances.specs.Distances.{place, distance, bid_at, ask_at, fine, sides, exact_at}
use Rattle.distances.specs.FloatEntry.{refused_entry, with_vector, answer_by, entry_if, floats_ok, float_entry, entry_over}
use Rattle.amounts.specs.Amounts.{amount_ok, time_ok, above0, to_float, tau_of}
use Rattle.model.specs.Configuration.{config_limits, config_ok, config_if, new_config}
use Rattle.model.specs.Model.{lots, holding_ok, market_ok, model_by, model_from, model_of, model_ok, driftless, model_if, model_limits, new_model, exact_model, closed_model}
use Rattle.amounts.specs.Rounding.{billionths}
use Rattle.prices.specs.Prices.{side, half_up, widening, bid_price, ask_price, each, in_order, rounded_if, rounded, widened, judge_if, judge, quotes_by, build_quotes}
use Rattle.quote.specs.Quotes.{exact_from, exact_answer, closed_from, closed_answer, with_steps, exact_by, exact_quotes, wrapped, optimal_quotes, closed_by, closed_form_quotes}
use Rattle.cases.specs.Cases.{of_config, of_model, of_exact, of_optimal, of_closed, of_answer, of_floats, reckoned_from, of_turn, reply, configuration_cases, holding_cases, vector_cases, quote_cases, drift_cases, table, Cases}

-- the definitions that a row is reckoned with, crate by crate
pub cases : Cases
unfolding
    sub mul div le of_int of_bits to_signed to_unsigned
    finite positive count given verdict first_of first_failing horner mantissa exponent odds ln_sum ln_series ln_join ln_parts ln_halved ln_of LN ln1p_of LN1P factorials exp_sum exp_n exp_rest exp_by exp_of EXP ceil_of CEIL
    from every_from fold larger abs or_nan diagonal_at left_at right_at magnitudes norm needed start begin run_on fixed first_if run_from run rates_ok
    padded vector_of place distance bid_at ask_at fine sides exact_at refused_entry with_vector answer_by floats_ok entry_if entry_over float_entry
    amount_ok time_ok above0 to_float config_limits config_ok config_if new_config lots holding_ok market_ok model_by model_from model_of model_ok tau_of driftless model_if model_limits new_model exact_model closed_model
    billionths side half_up widening bid_price ask_price each in_order rounded_if rounded widened judge_if judge quotes_by build_quotes
    exact_from exact_answer closed_from closed_answer with_steps exact_by exact_quotes wrapped optimal_quotes closed_by closed_form_quotes
    of_config of_model of_exact of_optimal of_closed of_answer of_floats reckoned_from of_turn reply configuration_cases holding_cases vector_cases quote_cases drift_cases table
cases = refl
