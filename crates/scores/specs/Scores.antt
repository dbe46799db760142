-- Scores of values, as whole numbers over one scale.
use Rattle.std.specs.Prelude.{◌≡◌, ℕ, ℤ, pos, ◌*◌, ◌/◌, ◌^◌, ◌+ℤ◌, nat_eq, List, [], ◌∷◌, length, map, take, drop, if◌then◌else◌}
use Rattle.std.specs.List.{sum}
use Rattle.weights.specs.Numbers.{absolute_sum}
use Rattle.midranks.specs.Midranks.{doubled_midrank, number_below, number_equal}
use Rattle.midranks.specs.Ties.{tie_groups}
use Rattle.midranks.specs.declared.ties.Tie.{Tie}
use Rattle.scores.specs.PlaceScores.{ansari_place, common_multiple, median_place, mood_place, multiple_to, place_scores, savage_place}
use Rattle.scores.specs.RawScores.{decimals, raw_score}
use Rattle.scores.specs.declared.kinds.ScoreKind.{ScoreKind}
use Rattle.scores.specs.declared.kinds.ScoreKind.TheVariants.{Wilcoxon, Ansari, Mood, Savage, Median, Raw}
use Rattle.scores.specs.declared.kinds.TieScores.{TieScores}
use Rattle.scores.specs.declared.kinds.Scored.{Scored}

-- the least common multiple of the sizes of groups
abbrev pub multiple_of_sizes : List Tie → ℕ
multiple_of_sizes ties = common_multiple (map (λ t. t.count) ties)

-- that of all tie sizes
unfoldable pub common_size : List ℤ → ℕ
common_size values = multiple_of_sizes (tie_groups values)

-- the scores of the places of the values that equal v: after the places of the lesser values
abbrev pub shared_places : List ℕ → List ℤ → ℤ → List ℕ
shared_places places values v = take (number_equal values v) (drop (number_below values v) places)

-- the mean of those, times the least common multiple of all tie sizes
unfoldable pub averaged : List ℕ → List ℤ → ℤ → ℕ
averaged places values v =
    sum (shared_places places values v) * (common_size values / number_equal values v)

-- the same, by what place p of n counts for
abbrev pub averaged_by : (ℕ → ℕ → ℕ) → List ℤ → ℤ → ℤ
averaged_by place_score values v =
    pos (averaged (place_scores (place_score (length values)) (length values)) values v)

-- the score of a value among values, by kind
abbrev pub score_of : ScoreKind → List ℤ → ℤ → ℤ
score_of Wilcoxon values v = pos (doubled_midrank values v)
score_of Ansari values v = averaged_by ansari_place values v
score_of Mood values v = averaged_by mood_place values v
score_of Savage values v = averaged_by savage_place values v
score_of Median values v = averaged_by median_place values v
score_of Raw values v = raw_score (decimals values) v

-- the scores of a kind, in the order of the values
abbrev pub score_list : ScoreKind → List ℤ → List ℤ
score_list kind values = map (score_of kind values) values

-- what they are divided by
abbrev pub scale_of : ScoreKind → List ℤ → ℕ
scale_of Wilcoxon values = 2
scale_of Ansari values = common_size values
scale_of Mood values = 4 * common_size values
scale_of Savage values = common_size values * multiple_to (length values)
scale_of Median values = common_size values
scale_of Raw values = 10 ^ decimals values

-- the sum of the scores of the subjects with a label
abbrev pub labelled_sum : ℕ → List ℤ → List ℕ → ℤ
labelled_sum label [] labels = pos 0
labelled_sum label (s ∷ scores) [] = pos 0
labelled_sum label (s ∷ scores) (l ∷ labels) =
    (if nat_eq l label then s else pos 0) +ℤ labelled_sum label scores labels

-- the sum of the absolute scores of a kind
abbrev pub score_sum : ScoreKind → List ℤ → ℕ
score_sum kind values = absolute_sum (score_list kind values)

-- what is scored is this list of values by this kind
pub record AreScores (kind : ScoreKind) (values : List ℤ) (scored : Scored) : Type 0 where
  pub list : scored.list ≡ score_list kind values
  pub scale : scored.scale ≡ scale_of kind values
  pub sum : scored.sum ≡ score_sum kind values

-- the tie groups of the values are scored by this kind, and all values
pub record AreTieScores (kind : ScoreKind) (values : List ℤ) (scored : TieScores) :
    Type 0 where
  pub ties : scored.ties ≡ tie_groups values
  pub scores : scored.scores ≡ map (λ t. score_of kind values t.value) (tie_groups values)
  pub all : AreScores kind values scored.all
