-- What is asked of pairs: the tests of one sample, of the pairs' differences.
use Rattle.std.specs.Prelude.{ℕ, List, ℤ, length, Option, Result}
use Rattle.weights.specs.Results.{with_fault, with_value}
use Rattle.sample_reader.specs.CellLayouts.{differences_in}
use Rattle.sample_reader.specs.declared.layout.Layout.TheVariants.{Pairs}
use Rattle.settings.specs.declared.settings.Settings.{Settings}
use Rattle.report.specs.declared.headings.Extra.TheVariants as extra
use Rattle.report.specs.declared.headings.Sizes.{Sizes}
use Rattle.report.specs.declared.headings.Sizes.TheVariants as sizes
use Rattle.report.specs.declared.refusals.Refusal.{Refusal}
use Rattle.one_sample_tests.specs.SignNetwork.{one_sample_network}
use Rattle.one_sample_tests.specs.SignedSamples.{nonzero, one_sample_test, sample_of}
use Rattle.one_sample_tests.specs.declared.kinds.SignKind.{SignKind}
use Rattle.run_outcome.specs.Question.{Question, question_about}
use Rattle.exact_run.specs.Layouts.{dropped_told, layout_refusal}

-- a pair is used where its difference is not zero
abbrev pub pair_sizes : List ℤ → Sizes
pair_sizes differences = sizes.Pairs (length differences) (length (nonzero differences))

abbrev pub pair_question : SignKind → Option ℕ → List ℤ → Question
pair_question kind dropped differences =
    question_about one_sample_test one_sample_network one_sample_network
    (sample_of kind differences) (pair_sizes differences) dropped extra.None

abbrev pub pairs_of : SignKind → Settings → List (List (List ℕ)) → Result Question Refusal
pairs_of kind settings rows =
    with_value (pair_question kind (dropped_told settings Pairs rows))
    (with_fault layout_refusal (differences_in settings.missing settings.picks rows))
