-- What is kept of a prepared test, and of its network.
use Rattle.std.specs.Prelude.{◌≡◌, ⊤, ℕ, ℤ, pos, ◌*◌, ◌^◌, ◌<◌, ◌≤◌, ◌≤ℤ◌, nat_abs, List, [], ◌∷◌, ◌++◌, All, length, replicate, Result, Ok, Err}
use Rattle.std.specs.List.{sum_by}
use Rattle.weights.specs.Frames.{IsFrameOf}
use Rattle.weights.specs.declared.frames.Frame.{Frame}
use Rattle.networks.specs.Judged.{JudgeFits}
use Rattle.weights.specs.declared.TheConstants.{MAX}
use Rattle.networks.specs.declared.verdicts.Judge.{Judge}
use Rattle.weights.specs.declared.wide.WideOf.TheVariants.{Total, Statistic}
use Rattle.weights.specs.declared.wide.PrepareFault.{PrepareFault}
use Rattle.weights.specs.declared.wide.PrepareFault.TheVariants.{TooWide, NoMemory}
use Rattle.midranks.specs.Ties.{tie_groups, values_in}
use Rattle.midranks.specs.declared.ties.Tie.{Tie}
use Rattle.weights.specs.Numbers.{absolute_sum}
use Rattle.scores.specs.declared.kinds.ScoreFault.{ScoreFault}
use Rattle.scores.specs.declared.kinds.ScoreFault.TheVariants as fault
use Rattle.scores.specs.declared.kinds.Scored.{Scored}
use Rattle.one_sample_tests.specs.SignedSamples.{SignedSample, one_sample_test, sign_scale, sign_scores, used_scores}
use Rattle.one_sample_tests.specs.declared.kinds.SignKind.{SignKind}
use Rattle.one_sample_tests.specs.declared.scored_marks.ScoredMarks.{ScoredMarks}

-- each difference has an absolute value that fits
abbrev pub AreDifferences : List ℤ → Type 0
AreDifferences differences = All (λ d. nat_abs d ≤ MAX) differences

abbrev pub AreNotNegative : List ℤ → Type 0
AreNotNegative scores = All (λ s. pos 0 ≤ℤ s) scores

-- absolute differences, scored
pub record AreSignScores (kind : SignKind) (sizes : List ℤ) (scored : Scored) : Type 0 where
  pub list : scored.list ≡ sign_scores kind sizes
  pub scale : scored.scale ≡ sign_scale kind sizes
  pub sum : scored.sum ≡ absolute_sum (sign_scores kind sizes)

-- or the sum of their scores is too wide
abbrev pub IsSignScored : SignKind → List ℤ → Result Scored ScoreFault → Type 0
IsSignScored kind sizes (Ok scored) = AreSignScores kind sizes scored
IsSignScored kind sizes (Err fault.TooWide) = MAX < absolute_sum (sign_scores kind sizes)
IsSignScored kind sizes (Err fault.NoMemory) = ⊤

-- what is made of a sample, of which no number passes a limit
pub record AreMarked (sample : SignedSample) (made : ScoredMarks) : Type 0 where
  pub scores : made.scores ≡ used_scores sample
  pub groups : made.groups ≡ tie_groups (used_scores sample)
  pub total_fits : 2 ^ length (used_scores sample) ≤ MAX
  pub bound_fits : (one_sample_test sample).bound ≤ MAX

-- that is made, with what is said of the test, or the bound is too wide
abbrev pub IsMadeOf : SignedSample → Result (ScoredMarks × Frame) PrepareFault → Type 0
IsMadeOf sample (Ok made) = AreMarked sample made.0 × IsFrameOf (one_sample_test sample) made.1
IsMadeOf sample (Err (TooWide Total)) = ⊥
IsMadeOf sample (Err (TooWide Statistic)) = MAX < (one_sample_test sample).bound
IsMadeOf sample (Err NoMemory) = ⊤

-- the scores of the subjects of groups, group by group
abbrev pub subjects_of : List Tie → List ℤ
subjects_of [] = []
subjects_of (t ∷ ts) = replicate t.count t.value ++ subjects_of ts

-- the sum of the absolute scores of groups
abbrev pub sizes_in : List Tie → ℕ
sizes_in groups = sum_by (λ t. t.count * nat_abs t.value) groups

-- no score of the groups is negative, and no number of their network passes a limit
pub record AreStages (groups : List Tie) (judge : Judge) : Type 0 where
  pub some : All (λ (t : Tie). pos 0 ≤ℤ t.value) groups
  pub total_fits : 2 ^ values_in groups ≤ MAX
  pub sums_fit : sizes_in groups ≤ MAX
  pub low_fits : JudgeFits judge (pos 0)
  pub high_fits : JudgeFits judge (pos (sizes_in groups))
