-- What is asked of groups: the tests of two samples, and of several ones.
use Rattle.std.specs.Prelude.{ℕ, Bool, List, [], length, bytes_eq, nat_eq, nat_le, Option, Result, Ok, Err, ◌&&◌, if◌then◌else◌}
use Rattle.std.specs.List.{list_all, list_any}
use Rattle.weights.specs.Results.{and_then, with_fault, with_value}
use Rattle.sample_reader.specs.GroupLayout.{groups_in}
use Rattle.sample_reader.specs.Groups.{GroupData, group_sizes}
use Rattle.sample_reader.specs.Orders.{reordered}
use Rattle.sample_reader.specs.declared.layout.Layout.TheVariants as layout
use Rattle.scores.specs.declared.kinds.ScoreKind.{ScoreKind}
use Rattle.settings.specs.declared.names.OptionName.TheVariants as option
use Rattle.settings.specs.declared.settings.Settings.{Settings}
use Rattle.report.specs.declared.headings.Extra.{Extra}
use Rattle.report.specs.declared.headings.Extra.TheVariants as extra
use Rattle.report.specs.declared.headings.Sizes.{Sizes}
use Rattle.report.specs.declared.headings.Sizes.TheVariants as sizes
use Rattle.report.specs.declared.refusals.Refusal.{Refusal}
use Rattle.report.specs.declared.refusals.Refusal.TheVariants as refusal
use Rattle.two_sample_tests.specs.Columns.{two_sample_network}
use Rattle.two_sample_tests.specs.TwoSamples.{two_sample_test}
use Rattle.kruskal_wallis.specs.KruskalWallis.{ScoredGroups}
use Rattle.ordered_samples.specs.Umbrella.{PeakedGroups}
use Rattle.k_sample_tests.specs.KSamples.{k_sample_network, k_sample_test}
use Rattle.networks.specs.declared.one_of.OneOf.{OneOf}
use Rattle.networks.specs.declared.one_of.OneOf.TheVariants.{First, Second}
use Rattle.run_outcome.specs.Question.{Question, question_about}
use Rattle.exact_run.specs.Layouts.{dropped_told, layout_refusal}

-- ---- groups

-- the order has as many labels, and each of the labels stands in it: labels without repeats are
-- only put into another order
abbrev pub is_order_of : List (List ℕ) → List (List ℕ) → Bool
is_order_of labels order =
    nat_eq (length labels) (length order)
    && list_all (λ label. list_any (bytes_eq label) order) labels

-- samples in the order of their labels that is asked, if one is asked; else in that of the file
abbrev pub in_order_by : {V : Type 0} → (V → List (List ℕ)) → (List (List ℕ) → V → V)
    → List (List ℕ) → V → Result V Refusal
in_order_by labels_of reordered_to [] samples = Ok samples
in_order_by labels_of reordered_to order samples =
    if is_order_of (labels_of samples) order then Ok (reordered_to order samples)
    else Err (refusal.Unfit option.Order)

abbrev pub in_asked_order : List (List ℕ) → GroupData → Result GroupData Refusal
in_asked_order = in_order_by (λ groups. groups.labels) reordered

-- at most so many groups, in the order used
abbrev pub groups_of : ℕ → Settings → List (List (List ℕ)) → Result GroupData Refusal
groups_of most settings rows =
    and_then (in_asked_order settings.order)
    (with_fault layout_refusal (groups_in most settings.missing settings.picks rows))

-- how many rows are left out
abbrev pub groups_dropped : Settings → List (List (List ℕ)) → Option ℕ
groups_dropped settings = dropped_told settings layout.Groups

abbrev pub group_rows : GroupData → Sizes
group_rows groups = sizes.Groups groups.labels (group_sizes groups)

-- ---- two samples

-- their test by the scores of a kind
abbrev pub two_sample_question : ScoreKind → Option ℕ → GroupData → Question
two_sample_question kind dropped groups =
    question_about two_sample_test two_sample_network two_sample_network
    (record { kind = kind; groups = groups }) (group_rows groups) dropped extra.None

abbrev pub two_samples_of : ScoreKind → Settings → List (List (List ℕ)) → Result Question Refusal
two_samples_of kind settings rows =
    with_value (two_sample_question kind (groups_dropped settings rows))
    (groups_of 2 settings rows)

-- ---- several samples

abbrev pub k_sample_question : OneOf ScoredGroups PeakedGroups → GroupData → Option ℕ → Extra
    → Question
k_sample_question samples groups dropped extra =
    question_about k_sample_test k_sample_network k_sample_network samples (group_rows groups)
    dropped extra

-- whether they differ, by the scores of a kind
abbrev pub kruskal_wallis_question : ScoreKind → Option ℕ → GroupData → Question
kruskal_wallis_question kind dropped groups =
    k_sample_question (First (record { kind = kind; groups = groups })) groups dropped
    (extra.Scores kind)

abbrev pub kruskal_wallis_of : Settings → List (List (List ℕ)) → Result Question Refusal
kruskal_wallis_of settings rows =
    with_value (kruskal_wallis_question settings.scores (groups_dropped settings rows))
    (groups_of 8 settings rows)

-- groups that are ordered have their peak at the last one
abbrev pub ordered_question : Option ℕ → GroupData → Question
ordered_question dropped groups =
    k_sample_question (Second (record { peak = length groups.labels; groups = groups })) groups
    dropped extra.None

abbrev pub ordered_of : Settings → List (List (List ℕ)) → Result Question Refusal
ordered_of settings rows =
    with_value (ordered_question (groups_dropped settings rows)) (groups_of 8 settings rows)

-- the peak is the number of a group, from 1
abbrev pub has_peak : ℕ → GroupData → Bool
has_peak peak groups = nat_le 1 peak && nat_le peak (length groups.labels)

abbrev pub peaked_question : ℕ → Option ℕ → GroupData → Question
peaked_question peak dropped groups =
    k_sample_question (Second (record { peak = peak; groups = groups })) groups dropped
    (extra.Peak peak)

-- the groups rise up to the peak and fall behind it
abbrev pub umbrella_question : ℕ → Option ℕ → GroupData → Result Question Refusal
umbrella_question peak dropped groups =
    if has_peak peak groups then Ok (peaked_question peak dropped groups)
    else Err (refusal.Unfit option.Peak)

abbrev pub umbrella_of : Settings → List (List (List ℕ)) → Result Question Refusal
umbrella_of settings rows =
    and_then (umbrella_question settings.peak (groups_dropped settings rows))
    (groups_of 8 settings rows)
