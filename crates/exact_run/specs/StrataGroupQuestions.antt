-- What is asked of grouped values in strata: the rank sum test of two samples, stratum by stratum.
use Rattle.std.specs.Prelude.{ℕ, List, length, Option, Result}
use Rattle.weights.specs.Results.{and_then, with_fault, with_value}
use Rattle.sample_reader.specs.Orders.{reordered_strata}
use Rattle.sample_reader.specs.StrataGroups.{StrataGroupData, strata_groups_in}
use Rattle.sample_reader.specs.declared.layout.Layout.TheVariants as layout
use Rattle.settings.specs.declared.settings.Settings.{Settings}
use Rattle.networks.specs.declared.one_of.OneOf.TheVariants.{Second}
use Rattle.report.specs.declared.headings.Extra.TheVariants as extra
use Rattle.report.specs.declared.headings.Sizes.{Sizes}
use Rattle.report.specs.declared.headings.Sizes.TheVariants as sizes
use Rattle.report.specs.declared.refusals.Refusal.{Refusal}
use Rattle.homogeneity.specs.Homogeneities.{homogeneity_network, homogeneity_test}
use Rattle.exact_run.specs.GroupQuestions.{in_order_by}
use Rattle.run_outcome.specs.Question.{Question, question_about}
use Rattle.exact_run.specs.Layouts.{dropped_told, layout_refusal}

-- the samples in the order of their labels that is asked
abbrev pub in_strata_order : List (List ℕ) → StrataGroupData → Result StrataGroupData Refusal
in_strata_order = in_order_by (λ samples. samples.labels) reordered_strata

abbrev pub strata_groups_of : Settings → List (List (List ℕ)) → Result StrataGroupData Refusal
strata_groups_of settings rows =
    and_then (in_strata_order settings.order)
    (with_fault layout_refusal (strata_groups_in settings.missing settings.picks rows))

-- how many strata there are, and how many subjects
abbrev pub strata_group_sizes : StrataGroupData → Sizes
strata_group_sizes samples = sizes.Strata (length samples.strata) (length samples.values)

abbrev pub stratified_question : Option ℕ → StrataGroupData → Question
stratified_question dropped samples =
    question_about homogeneity_test homogeneity_network homogeneity_network (Second samples)
    (strata_group_sizes samples) dropped extra.None

abbrev pub stratified_ranks_of : Settings → List (List (List ℕ)) → Result Question Refusal
stratified_ranks_of settings rows =
    with_value (stratified_question (dropped_told settings layout.StrataGroups rows))
    (strata_groups_of settings rows)
