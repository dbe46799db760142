-- Tests of a linear statistic: each label has a score and each subject has one, and the products of
-- the two are summed over the subjects.
use Rattle.std.specs.Prelude.{◌≡◌, ◌*◌, ◌^◌, ◌<◌, ◌≤◌, ◌*ℤ◌, length, Contains, Result, Ok, Err}
use Rattle.std.specs.List.{AllByRecursion, sum}
use Rattle.weights.specs.Conditional.{ConditionalTest, every_tail}
use Rattle.weights.specs.Labellings.{labellings, number_of_labellings}
use Rattle.weights.specs.Numbers.{absolute_sum}
use Rattle.weights.specs.declared.TheConstants.{MAX}
use Rattle.weights.specs.declared.wide.PrepareFault.{PrepareFault}
use Rattle.completion_bounds.specs.Pairings.{greatest_score}
use Rattle.networks.specs.Judged.{judge_of}
use Rattle.later_scores.specs.LaterSums.{subjects, total_score}
use Rattle.label_network.specs.Linear.{linear_meaning, linear_statistic, row_sum}
use Rattle.label_network.specs.Meanings.{Meaning}
use Rattle.labelled.specs.LabelTests.{IsRefusedBy, LabelTest, label_test}
use Rattle.labelled.specs.declared.linear.ScoredLabels.{ScoredLabels}

-- with N subjects, its mean is the sum of the labels' scores over the subjects times the sum of the
-- subjects' own scores, over N
abbrev pub linear_says : ScoredLabels → LabelTest
linear_says s = record {
  sizes = s.sizes;
  statistic = linear_statistic s.label_scores s.scores;
  observed = s.observed;
  tails = every_tail;
  factor = length s.scores;
  centre = row_sum s.label_scores s.sizes *ℤ total_score s.scores;
  scale = s.scale;
  bound = 2 * length s.scores * (greatest_score s.label_scores * absolute_sum s.scores);
}

abbrev pub linear_label_test : ScoredLabels → ConditionalTest
linear_label_test s = label_test (linear_says s)

-- the network that ends at it: a stage is a column of subjects with one score
abbrev pub linear_label_meaning : ScoredLabels → Meaning
linear_label_meaning s =
    linear_meaning s.label_scores s.sizes s.column_scores s.columns
    (judge_of (linear_label_test s))

-- labels and subjects with scores, as many subjects as labels, in columns of one score
pub record AreScoredLabels (s : ScoredLabels) : Type 0 where
  pub wide : length s.label_scores ≡ length s.sizes
  pub some_labels : 2 ≤ length s.sizes
  pub few_labels : length s.sizes ≤ 8
  pub long : length s.column_scores ≡ length s.columns
  pub each : AllByRecursion (λ c. 0 < c) s.columns
  pub subjects_are : subjects s.column_scores s.columns ≡ s.scores
  pub whole : sum s.sizes ≡ length s.scores
  pub some : 2 ≤ length s.scores
  pub few : length s.scores < 2 ^ 32
  pub observed : Contains (labellings s.sizes) s.observed
  pub label_some : 1 ≤ greatest_score s.label_scores
  pub label_small : greatest_score s.label_scores < 2 ^ 64

-- of which neither the total nor the bound passes a limit
pub record AreFittingLabels (s : ScoredLabels) : Type 0 where
  pub are : AreScoredLabels s
  pub total_fits : number_of_labellings s.sizes ≤ MAX
  pub bound_fits : (linear_says s).bound ≤ MAX

-- they are fitting, or the bound of the test is too wide
abbrev pub IsFittedTo : ScoredLabels → Result ScoredLabels PrepareFault → Type 0
IsFittedTo s (Ok made) = (made ≡ s) × AreFittingLabels s
IsFittedTo s (Err fault) = IsRefusedBy (linear_says s).bound fault
