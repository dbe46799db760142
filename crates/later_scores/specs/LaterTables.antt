-- Tables of the sums of the later scores: one row for each stage, the last stage first.
use Rattle.std.specs.Prelude.{◌≡◌, ℕ, suc, ◌+◌, ◌-◌, ◌*◌, ◌<◌, ◌≤◌, ◌^◌, ◌⊎◌, ℤ, pos, List, length, get_or}
use Rattle.std.specs.List.{sum}
use Rattle.std.specs.Int.{int_min, int_max}
use Rattle.later_scores.specs.LaterSums.{total_score, later_scores, part_sum}
use Rattle.weights.specs.Numbers.{absolute_sum}

-- the rows of the stages from g on
pub record IsTable (f : ℕ → ℕ → ℤ) (stages width g : ℕ) (table : List ℤ) : Type 0 where
  pub long : length table ≡ (suc stages - g) * width
  pub each : (h j : ℕ) → g ≤ h → h ≤ stages → j < width
      → get_or table ((stages - h) * width + j) (pos 0) ≡ f h j

abbrev pub IsPartTable : (ℤ → ℤ → ℤ) → List ℤ → List ℕ → ℕ → ℕ → List ℤ → Type 0
IsPartTable better scores columns width g table =
    IsTable (λ h j. part_sum better j (later_scores scores columns h)) (length columns) width g
    table

-- the totals of the later scores of the stages from g on
pub record IsTotals (scores : List ℤ) (columns : List ℕ) (g : ℕ) (totals : List ℤ) : Type 0 where
  pub long : length totals ≡ suc (length columns) - g
  pub each : (h : ℕ) → g ≤ h → h ≤ length columns
      → get_or totals (length columns - h) (pos 0) ≡ total_score (later_scores scores columns h)

-- and their numbers
pub record IsCounted (scores : List ℤ) (columns : List ℕ) (g : ℕ) (counts : List ℕ) : Type 0 where
  pub long : length counts ≡ suc (length columns) - g
  pub each : (h : ℕ) → g ≤ h → h ≤ length columns
      → get_or counts (length columns - h) 0 ≡ length (later_scores scores columns h)

-- so many of the later scores are held, or all but as many
abbrev pub IsTabled : ℕ → ℕ → List ℤ → Type 0
IsTabled width take later = (length later ≤ take + (width - 1)) ⊎ (take < width)

-- what stands in the tables of all stages
pub record IsLater (scores : List ℤ) (columns : List ℕ) (width : ℕ)
    (least greatest totals : List ℤ) (counts : List ℕ) : Type 0 where
  pub long : length scores ≡ length columns
  pub wide : 1 ≤ width
  pub few : sum columns < 2 ^ 64
  pub small : absolute_sum (later_scores scores columns 0) < 2 ^ 127
  pub least_table : IsPartTable int_min scores columns width 0 least
  pub greatest_table : IsPartTable int_max scores columns width 0 greatest
  pub all_totals : IsTotals scores columns 0 totals
  pub all_counts : IsCounted scores columns 0 counts
