-- Words for the bodies of the test of Kruskal and Wallis.
use Rattle.std.specs.Prelude.{◌≡◌, ℕ, ◌+◌, ◌-◌, ◌^◌, ◌<◌, ◌≤◌, ℤ, pos, ◌+ℤ◌, unsigned_abs, List, length, map, get_or, Result, Ok, Err}
use Rattle.std.specs.List.{All, Contains, sum}
use Rattle.weights.specs.Labellings.{labellings, number_of_labellings}
use Rattle.networks.specs.Judged.{JudgeFits}
use Rattle.weights.specs.declared.TheConstants.{MAX}
use Rattle.networks.specs.declared.verdicts.Judge.{Judge}
use Rattle.weights.specs.declared.wide.PrepareFault.{PrepareFault}
use Rattle.completion_bounds.specs.Boxes.{factored_squares}
use Rattle.record_reader.specs.declared.TheConstants.{MOST_ROWS}
use Rattle.weights.specs.Numbers.{absolute_sum}
use Rattle.sample_reader.specs.Groups.{group_sizes}
use Rattle.sample_reader.specs.PooledSample.{labels_of, pooled}
use Rattle.labelled.specs.LabelTests.{IsRefusedBy}
use Rattle.later_scores.specs.LaterSums.{part_sum, subjects}
use Rattle.later_scores.specs.LaterSteps.{better_of}
use Rattle.later_scores.specs.declared.ends.End.{End}
use Rattle.later_scores.specs.LaterTables.{IsTabled}
use Rattle.pooled_columns.specs.PooledColumns.{column_scores, column_sizes, pooled_values}
use Rattle.kruskal_wallis.specs.KruskalWallis.{ScoredGroups, kruskal_wallis_test, pooled_scores, size_factors}
use Rattle.kruskal_wallis.specs.declared.group_scores.GroupScores.{GroupScores}

-- place by place, the two sum to no more than the greatest statistic
pub record AreAddable (partial added : List ℤ) : Type 0 where
  pub each : (i : ℕ) → i < length partial
      → unsigned_abs (get_or partial i (pos 0)) + unsigned_abs (get_or added i (pos 0)) ≤ MAX

-- what groups of these sizes get of the later scores at an end, each by itself
abbrev pub parts_of : End → List ℤ → List ℕ → List ℤ
parts_of end later sizes = map (λ n. part_sum (better_of end) n later) sizes

-- place by place, the two sum to less than 32 bits hold
pub record AreNarrow (partial added : List ℤ) : Type 0 where
  pub each : (i : ℕ) → i < length partial
      → unsigned_abs (get_or partial i (pos 0) +ℤ get_or added i (pos 0)) < 2 ^ 31

-- of the later scores as many are held as each of the sizes
pub record AreTabled (width : ℕ) (later : List ℤ) (sizes : List ℕ) : Type 0 where
  pub few : (i : ℕ) → get_or sizes i 0 ≤ length later
  pub held : (i : ℕ) → IsTabled width (get_or sizes i 0) later

-- each group, or all others together, has no more subjects than this
pub record AreEnough (most : ℕ) (sizes : List ℕ) : Type 0 where
  pub each : (i : ℕ) → most < get_or sizes i 0 → sum sizes ≤ most + get_or sizes i 0

-- sums of scores, and of their squares, that pass no limit
pub record IsSquaring (factors : List ℕ) (bound : ℕ) (scores : List ℤ) (columns rows : List ℕ)
    (judge : Judge) : Type 0 where
  pub long : length scores ≡ length columns
  pub level : sum columns ≡ sum rows
  pub few : sum rows ≤ MOST_ROWS
  pub few_rows : length rows ≤ 8
  pub one_each : length factors ≡ length rows
  pub sums_fit : absolute_sum (subjects scores columns) ≤ MAX
  pub bound_fits : bound ≤ MAX
  pub bounded : (p : List ℤ) → absolute_sum p ≤ absolute_sum (subjects scores columns)
      → factored_squares p factors ≤ bound
  pub rules_fit : (v : ℤ) → JudgeFits judge v

-- what the measure keeps
pub record AreRankSums (factors : List ℕ) (bound : ℕ) (scores : List ℤ) (columns rows : List ℕ)
    (judge : Judge) (width : ℕ) : Type 0 where
  pub squaring : IsSquaring factors bound scores columns rows judge
  pub enough : AreEnough (width - 1) rows

-- several groups, none of them empty, and a total and a bound that pass no limit
pub record AreFitting (samples : ScoredGroups) : Type 0 where
  pub some : 2 ≤ length (group_sizes samples.groups)
  pub few_rows : length (group_sizes samples.groups) ≤ 8
  pub none_empty : All (λ size. 0 < size) (group_sizes samples.groups)
  pub whole : sum (group_sizes samples.groups) ≡ length (pooled_values samples.groups)
  pub few : length (pooled_values samples.groups) ≤ MOST_ROWS
  pub observed : Contains (labellings (group_sizes samples.groups))
      (labels_of (pooled samples.groups))
  pub total_fits : number_of_labellings (group_sizes samples.groups) ≤ MAX
  pub bound_fits : (kruskal_wallis_test samples).bound ≤ MAX

-- what is made of them
pub record AreScored (samples : ScoredGroups) (made : GroupScores) : Type 0 where
  pub sizes : made.sizes ≡ group_sizes samples.groups
  pub labels : made.labels ≡ labels_of (pooled samples.groups)
  pub factors : made.factors.items ≡ size_factors (group_sizes samples.groups)
  pub bound : made.bound ≡ (kruskal_wallis_test samples).bound
  pub scale : made.scale ≡ (kruskal_wallis_test samples).scale
  pub scores : made.scores ≡ pooled_scores samples
  pub sum : made.sum ≡ absolute_sum (pooled_scores samples)
  pub column_sizes : made.columns.sizes ≡ column_sizes (pooled_values samples.groups)
  pub column_scores : made.columns.scores
      ≡ column_scores samples.kind (pooled_values samples.groups)
  pub fitting : AreFitting samples

-- that is made, or the bound is too wide
abbrev pub IsMadeOf : ScoredGroups → Result GroupScores PrepareFault → Type 0
IsMadeOf samples (Ok made) = AreScored samples made
IsMadeOf samples (Err fault) = IsRefusedBy (kruskal_wallis_test samples).bound fault
