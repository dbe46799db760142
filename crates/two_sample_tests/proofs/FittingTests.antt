-- What holds of a test of two samples whose total and bound pass no limit.
use Rattle.std.proofs.Common.{◌≡◌, ℕ, ◌+◌, List, [], ◌∷◌, length, refl, sym, ◌∙◌, ap, subst, arith}
use Rattle.std.specs.Prelude.{slice_index, Some, Err}
use Rattle.std.specs.List.{sum}
use Rattle.std.proofs.lemmas.List.{length-map}
use Rattle.weights.specs.declared.wide.PrepareFault.{PrepareFault}
use Rattle.weights.specs.declared.wide.PrepareFault.TheVariants.{TooWide, NoMemory}
use Rattle.weights.specs.Wide.{Prepares, too_wide}
use Rattle.weights.specs.Labellings.{counts_of}
use Rattle.weights.proofs.CellSums.{sum-two}
use Rattle.scores.specs.Scores.{score_of}
use Rattle.scores.specs.declared.kinds.ScoreKind.{ScoreKind}
use Rattle.sample_reader.specs.Groups.{group_sizes}
use Rattle.sample_reader.specs.Data.{data_of}
use Rattle.sample_reader.specs.declared.samples.Groups.{Groups}
use Rattle.networks.specs.Judged.{judge_of}
use Rattle.networks.specs.Network.{Network}
use Rattle.label_network.specs.LabelNetwork.{label_network}
use Rattle.label_network.specs.Linear.{linear_meaning}
use Rattle.labelled.specs.LabelTests.{IsSound, IsWithin, LabelTest, label_test}
use Rattle.labelled.specs.LinearTests.{AreFittingLabels, linear_label_meaning, linear_label_test, linear_says}
use Rattle.labelled.proofs.LinearLaws.{is-within as linear-within, linear-sound}
use Rattle.pooled_columns.specs.PooledColumns.{column_scores, column_sizes, pooled_values}
use Rattle.pooled_columns.proofs.GroupFacts.{few_subjects, rows-long}
use Rattle.two_sample_tests.specs.Columns.{row_scores, scored_samples, two_sample_meaning}
use Rattle.two_sample_tests.specs.SampleSteps.{AreFitting}
use Rattle.two_sample_tests.specs.TwoSamples.{TwoSamples, pooled_scores, two_sample_says, two_sample_test}
use Rattle.two_sample_tests.proofs.SameTests.{same-says}

-- the network that ends at the sums, by the rules of a test
abbrev network_by : TwoSamples → LabelTest → Network
network_by samples t = label_network (linear_meaning row_scores (group_sizes samples.groups) (column_scores samples.kind (pooled_values samples.groups)) (column_sizes (pooled_values samples.groups)) (judge_of (label_test t)))

module _ (samples : TwoSamples) (f : AreFitting samples) where
  pub whole : slice_index (group_sizes samples.groups) 0 + slice_index (group_sizes samples.groups) 1 ≡ length (pooled_scores samples)
  whole = sym (ap sum f.sizes_are ∙ sum-two (slice_index (group_sizes samples.groups) 0) (slice_index (group_sizes samples.groups) 1)) ∙ f.labels.are.whole

  pub is-same : linear_says (scored_samples samples) ≡ two_sample_says samples
  is-same = same-says samples (ap length f.sizes_are)

  pub is-within : IsWithin (two_sample_says samples)
  is-within = subst IsWithin is-same (linear-within (scored_samples samples) f.labels)

  pub same-network : label_network (linear_label_meaning (scored_samples samples)) ≡ label_network (two_sample_meaning samples)
  same-network = ap (network_by samples) is-same

  pub two_sample-sound : IsSound (two_sample_says samples) (label_network (two_sample_meaning samples)) (label_network (two_sample_meaning samples))
  two_sample-sound = subst (λ t. IsSound t (network_by samples t) (network_by samples t)) is-same (linear-sound (scored_samples samples) f.labels)

-- ---- of groups with two labels

sizes-two : (k : ℕ) (members : List ℕ) → k ≡ 2 → counts_of k members ≡ slice_index (counts_of k members) 0 ∷ slice_index (counts_of k members) 1 ∷ []
sizes-two k members e = rw e refl

module _ (groups : Groups) (two : length groups.labels ≡ 2) (kind : ScoreKind) where
  abbrev samples : TwoSamples
  samples = record { kind = kind; groups = data_of groups }

  pub fitting-of : AreFittingLabels (scored_samples samples) → AreFitting samples
  fitting-of fit = record {
    sizes_are = sizes-two (length groups.labels) groups.members two;
    few = omega (arith, length-map (pooled_values (data_of groups)) (score_of kind (pooled_values (data_of groups))), few_subjects groups);
    labels = fit;
  }

  pub same : linear_says (scored_samples samples) ≡ two_sample_says samples
  same = same-says samples (rows-long groups ∙ two)

  pub refused-as : (fault : PrepareFault) → Prepares linear_label_test (scored_samples samples) (Err fault) → Prepares two_sample_test samples (Err fault)
  refused-as (TooWide what) is = subst (λ (t : LabelTest). too_wide (label_test t) ≡ Some what) same is
  refused-as NoMemory is = tt
