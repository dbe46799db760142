-- What is asked of tables of counts.
use Rattle.std.specs.Prelude.{ℕ, ◌==◌, Bool, true, false, List, [], length, ℤ, pos, map, Option, Some, None, Result, Ok, Err, if◌then◌else◌}
use Rattle.std.specs.List.{range_with_len, sum}
use Rattle.weights.specs.Results.{and_then, with_fault, with_value}
use Rattle.weights.specs.declared.odds.Odds.{Odds}
use Rattle.table_reader.specs.TableLayout.{TableData, table_in}
use Rattle.settings.specs.declared.names.OptionName.{OptionName}
use Rattle.settings.specs.declared.names.OptionName.TheVariants as option
use Rattle.settings.specs.declared.settings.Settings.{Settings}
use Rattle.report.specs.declared.headings.Extra.TheVariants as extra
use Rattle.report.specs.declared.headings.Sizes.{Sizes}
use Rattle.report.specs.declared.headings.Sizes.TheVariants as sizes
use Rattle.report.specs.declared.refusals.Refusal.{Refusal}
use Rattle.report.specs.declared.refusals.Refusal.TheVariants as refusal
use Rattle.one_sample_tests.specs.SignNetwork.{one_sample_network}
use Rattle.one_sample_tests.specs.SignedSamples.{discordant, one_sample_test}
use Rattle.two_by_two.specs.OddsSteps.{weighted_of}
use Rattle.linear_by_linear.specs.LinearSteps.{scored_of}
use Rattle.table_tests.specs.TableTests.{table_network, table_test}
use Rattle.table_sums.specs.Tables.{is_two_by_two}
use Rattle.two_by_two.specs.FisherOdds.{WeightedTable}
use Rattle.linear_by_linear.specs.LinearByLinear.{ScoredTable}
use Rattle.networks.specs.declared.one_of.OneOf.{OneOf}
use Rattle.networks.specs.declared.one_of.OneOf.TheVariants.{First, Second}
use Rattle.run_outcome.specs.Question.{Question, question_about}
use Rattle.exact_run.specs.Layouts.{layout_refusal}

-- the table of the rows: one of two rows and two columns, or any
abbrev pub table_of : Bool → Settings → List (List (List ℕ)) → Result TableData Refusal
table_of two_by_two settings rows =
    with_fault layout_refusal (table_in two_by_two settings.picks rows)

abbrev pub table_sizes : TableData → Sizes
table_sizes table = sizes.Table table.rows table.columns (sum table.cells)

-- ---- McNemar's test

abbrev pub mcnemar_question : TableData → Question
mcnemar_question table =
    question_about one_sample_test one_sample_network one_sample_network (discordant table)
    (table_sizes table) None extra.None

abbrev pub mcnemar_of : Settings → List (List (List ℕ)) → Result Question Refusal
mcnemar_of settings rows = with_value mcnemar_question (table_of true settings rows)

-- ---- Fisher's exact test

-- what a test of a table asks
abbrev pub table_question : TableData → OneOf (OneOf TableData ScoredTable) WeightedTable
    → Question
table_question table test =
    question_about table_test table_network table_network test (table_sizes table) None extra.None

abbrev pub fisher_question : TableData → Question
fisher_question table = table_question table (First (First table))

-- with odds it has the tails of one side, which are those of a table of two rows and two columns
abbrev pub odds_question : Odds → TableData → Result Question Refusal
odds_question odds table =
    if is_two_by_two table then Ok (table_question table (Second (weighted_of table odds)))
    else Err (refusal.Unfit option.Tail)

-- with odds, where they are given
abbrev pub fisher_asked : Option Odds → TableData → Result Question Refusal
fisher_asked None table = Ok (fisher_question table)
fisher_asked (Some odds) table = odds_question odds table

abbrev pub fisher_of : Settings → List (List (List ℕ)) → Result Question Refusal
fisher_of settings rows = and_then (fisher_asked settings.odds) (table_of false settings rows)

-- ---- the linear-by-linear test

-- the scores that are given, or 1, 2, 3 and so on
abbrev pub scores_or_numbers : ℕ → List ℤ → List ℤ
scores_or_numbers count [] = map pos (range_with_len 1 count)
scores_or_numbers count scores = scores

-- as many scores, or the option does not fit
abbrev pub fitting_scores : OptionName → ℕ → List ℤ → Result (List ℤ) Refusal
fitting_scores name count given =
    let scores = scores_or_numbers count given in
    if length scores == count then Ok scores else Err (refusal.Unfit name)

abbrev pub linear_question : TableData → List ℤ → List ℤ → Question
linear_question table row_scores column_scores =
    table_question table (First (Second (scored_of table row_scores column_scores)))

-- the scores of rows are looked at before those of columns
abbrev pub scored_question : Settings → TableData → Result Question Refusal
scored_question settings table =
    and_then
    (λ row_scores. with_value (linear_question table row_scores)
    (fitting_scores option.ColumnScores table.columns settings.column_scores))
    (fitting_scores option.RowScores table.rows settings.row_scores)

abbrev pub linear_of : Settings → List (List (List ℕ)) → Result Question Refusal
linear_of settings rows = and_then (scored_question settings) (table_of false settings rows)
