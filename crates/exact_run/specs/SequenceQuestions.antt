-- What is asked of rows in their order: Kendall's test of two values in each, and the runs test
-- of a label in each.
use Rattle.std.specs.Prelude.{ℕ, List, length, Option, Result}
use Rattle.weights.specs.Labellings.{counts_of}
use Rattle.weights.specs.Results.{with_fault, with_value}
use Rattle.sample_reader.specs.Twins.{TwinData, twins_in}
use Rattle.sample_reader.specs.Sequences.{SequenceData, sequence_in}
use Rattle.sample_reader.specs.declared.layout.Layout.TheVariants as layout
use Rattle.settings.specs.declared.settings.Settings.{Settings}
use Rattle.networks.specs.declared.one_of.OneOf.TheVariants.{First, Second}
use Rattle.report.specs.declared.headings.Extra.TheVariants as extra
use Rattle.report.specs.declared.headings.Sizes.{Sizes}
use Rattle.report.specs.declared.headings.Sizes.TheVariants as sizes
use Rattle.report.specs.declared.refusals.Refusal.{Refusal}
use Rattle.sequence_tests.specs.SequenceTests.{running_network, sequence_network, sequence_test}
use Rattle.run_outcome.specs.Question.{Question, question_about}
use Rattle.exact_run.specs.Layouts.{dropped_told, layout_refusal}

-- ---- bivariate samples

-- each row is used
abbrev pub twin_sizes : TwinData → Sizes
twin_sizes sample = sizes.Pairs (length sample.first) (length sample.first)

abbrev pub kendall_question : Option ℕ → TwinData → Question
kendall_question dropped sample =
    question_about sequence_test sequence_network running_network (First sample)
    (twin_sizes sample) dropped extra.None

abbrev pub kendall_of : Settings → List (List (List ℕ)) → Result Question Refusal
kendall_of settings rows =
    with_value (kendall_question (dropped_told settings layout.Twins rows))
    (with_fault layout_refusal (twins_in settings.missing settings.picks rows))

-- ---- sequences

-- how many rows have each label
abbrev pub sequence_sizes : SequenceData → Sizes
sequence_sizes sequence =
    sizes.Groups sequence.labels (counts_of (length sequence.labels) sequence.members)

abbrev pub runs_question : Option ℕ → SequenceData → Question
runs_question dropped sequence =
    question_about sequence_test sequence_network running_network (Second sequence)
    (sequence_sizes sequence) dropped extra.None

abbrev pub runs_of : Settings → List (List (List ℕ)) → Result Question Refusal
runs_of settings rows =
    with_value (runs_question (dropped_told settings layout.Sequence rows))
    (with_fault layout_refusal (sequence_in settings.missing settings.picks rows))
