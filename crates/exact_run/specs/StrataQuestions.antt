-- What is asked of strata of tables of two rows and two columns.
use Rattle.std.specs.Prelude.{ℕ, ◌/◌, List, length, Option, None, Result}
use Rattle.std.specs.List.{sum}
use Rattle.weights.specs.Results.{with_fault, with_value}
use Rattle.weights.specs.declared.odds.Odds.{Odds}
use Rattle.table_reader.specs.StrataLayout.{strata_in}
use Rattle.settings.specs.declared.settings.Settings.{Settings}
use Rattle.networks.specs.declared.one_of.OneOf.TheVariants.{First}
use Rattle.report.specs.declared.headings.Extra.TheVariants as extra
use Rattle.report.specs.declared.headings.Sizes.{Sizes}
use Rattle.report.specs.declared.headings.Sizes.TheVariants as sizes
use Rattle.report.specs.declared.refusals.Refusal.{Refusal}
use Rattle.homogeneity.specs.Homogeneities.{homogeneity_network, homogeneity_test}
use Rattle.stratified_tests.specs.StrataNetwork.{strata_network}
use Rattle.stratified_tests.specs.StrataTests.{data_of, strata_test}
use Rattle.run_outcome.specs.Question.{Question, question_about}
use Rattle.exact_run.specs.Layouts.{layout_refusal}

-- each stratum has four cells
abbrev pub strata_sizes : List ℕ → Sizes
strata_sizes cells = sizes.Strata (length cells / 4) (sum cells)

-- the strata of the rows
abbrev pub strata_cells_of : Settings → List (List (List ℕ)) → Result (List ℕ) Refusal
strata_cells_of settings rows = with_fault layout_refusal (strata_in settings.picks rows)

-- ---- common independence

-- with odds, where they are given
abbrev pub strata_question : Option Odds → List ℕ → Question
strata_question odds cells =
    question_about strata_test strata_network strata_network (data_of odds cells)
    (strata_sizes cells) None extra.None

abbrev pub stratified_of : Settings → List (List (List ℕ)) → Result Question Refusal
stratified_of settings rows =
    with_value (strata_question settings.odds) (strata_cells_of settings rows)

-- ---- equal odds ratios

abbrev pub zelen_question : List ℕ → Question
zelen_question cells =
    question_about homogeneity_test homogeneity_network homogeneity_network (First cells)
    (strata_sizes cells) None extra.None

abbrev pub zelen_of : Settings → List (List (List ℕ)) → Result Question Refusal
zelen_of settings rows = with_value zelen_question (strata_cells_of settings rows)
