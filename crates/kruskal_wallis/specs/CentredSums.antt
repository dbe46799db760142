-- The sums of the groups with narrower intervals. The sum of each group is seen from a middle: so
-- many times one score as the group has subjects. The sums of all groups come to the sum of all
-- scores, so the factored squares of the sums are those of what is seen, and a number that all
-- labellings share.
use Rattle.std.specs.Prelude.{◌≡◌, ℕ, ◌+◌, ◌-◌, ◌*◌, ◌^◌, ◌<◌, ◌≤◌, ℤ, pos, nat_abs, ◌-ℤ◌, List, [], ◌∷◌, ◌++◌, length, min}
use Rattle.std.specs.List.{All, sum}
use Rattle.completion_bounds.specs.Boxes.{factored_squares, greatest_squares, least_squares}
use Rattle.networks.specs.declared.verdicts.Judge.{Judge}
use Rattle.later_scores.specs.LaterSums.{later_scores, subjects}
use Rattle.label_network.specs.Meanings.{Meaning}
use Rattle.weights.specs.Numbers.{absolute_sum}
use Rattle.weights.specs.declared.TheConstants.{MAX}
use Rattle.symmetry_reduction.specs.GroupSums.{AreHeld}
use Rattle.networks.specs.PartialSums.{plus}
use Rattle.kruskal_wallis.specs.RankSums.{greatest_parts, least_parts, score_parts, squares_meaning}

-- what the middle takes from the sum of each group: as if each subject had so much less
abbrev pub from_middle : ℕ → List ℕ → List ℤ
from_middle middle rows = score_parts (pos 0 -ℤ pos middle) rows

-- how much more the factored squares of n subjects' sums are, which come to `all`, where the size
-- of each group times its factor is `multiple`
abbrev pub middle_squares : ℕ → ℕ → ℕ → ℕ → ℕ
middle_squares multiple middle all n = multiple * (middle * (2 * all - middle * n))

-- between which sums, with this added to each, the groups of a key end
abbrev pub seen_lows : List ℤ → List ℤ → List ℕ → List ℤ → List ℤ
seen_lows shifts later r p = plus (plus p (least_parts later r)) shifts

abbrev pub seen_highs : List ℤ → List ℤ → List ℕ → List ℤ → List ℤ
seen_highs shifts later r p = plus (plus p (greatest_parts later r)) shifts

abbrev pub centred_low : List ℕ → ℕ → ℕ → List ℤ → List ℤ → List ℕ → List ℤ → ℤ
centred_low factors bound base shifts later r p =
    let lows = seen_lows shifts later r p in
    let highs = seen_highs shifts later r p in
    pos (min (base + least_squares lows highs factors) bound)

abbrev pub centred_high : List ℕ → ℕ → ℕ → List ℤ → List ℤ → List ℕ → List ℤ → ℤ
centred_high factors bound base shifts later r p =
    let lows = seen_lows shifts later r p in
    let highs = seen_highs shifts later r p in
    pos (min (base + greatest_squares lows highs factors) bound)

-- the same measure with these intervals
abbrev pub centred_meaning :
    List ℕ → ℕ → ℕ → ℕ → List ℤ → List ℕ → List ℕ → Judge → Meaning
centred_meaning factors bound base middle scores columns rows judge =
    let shifts = from_middle middle rows in
    let later = later_scores scores columns in
    record (squares_meaning factors bound scores columns rows judge) {
      outlook = λ g r.
          plus (least_parts (later g) r) shifts
          ++ plus (greatest_parts (later g) r) shifts;
      low = λ g r p. centred_low factors bound base shifts (later g) r p;
      high = λ g r p. centred_high factors bound base shifts (later g) r p;
    }

-- the size of each group times its factor
abbrev pub AreParts : ℕ → List ℕ → List ℕ → Type 0
AreParts multiple [] [] = Unit {0}
AreParts multiple (f ∷ factors) (n ∷ rows) = (f * n ≡ multiple) × AreParts multiple factors rows
AreParts multiple factors rows = ⊥

-- No score is negative, and the sums are seen from no more than the mean; sums that come to all
-- scores have so much more than what is seen of them.
pub record IsCentred (factors : List ℕ) (bound base middle : ℕ) (scores : List ℤ)
    (columns rows : List ℕ) : Type 0 where
  pub held : All (λ z. z ≡ pos (nat_abs z)) scores
  pub below : middle * sum rows ≤ absolute_sum (subjects scores columns)
  pub value : (p : List ℤ) → AreHeld p → length p ≡ length rows
      → absolute_sum p ≡ absolute_sum (subjects scores columns)
      → base + factored_squares (plus p (from_middle middle rows)) factors
      ≡ factored_squares p factors
  pub base_fits : base ≤ bound
  pub middle_fits : middle ≤ absolute_sum (subjects scores columns)
  pub small : 2 * absolute_sum (subjects scores columns) ≤ MAX

-- all scores together leave no 32 bits, and no eight of the greatest squared sums 127
pub record HasNarrowBoxes (bound : ℕ) (scores : List ℤ) (columns : List ℕ) : Type 0 where
  pub small : absolute_sum (subjects scores columns) < 2 ^ 31
  pub room : bound < 2 ^ 124
