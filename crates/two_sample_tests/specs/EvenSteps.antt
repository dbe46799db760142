-- Words for scores that rise by one step, as those of ranks without ties do.
use Rattle.std.specs.Prelude.{◌≡◌, ⊤, ℕ, zero, suc, ◌+◌, ◌*◌, ◌≤◌, ℤ, pos, ◌+ℤ◌, ◌*ℤ◌, unsigned_abs, List, [], ◌∷◌}
use Rattle.two_sample_tests.specs.declared.even_scores.EvenScores.{EvenScores}

-- each score is a step greater than the one before it
abbrev pub RiseBy : ℤ → ℕ → List ℤ → Type 0
RiseBy first step [] = ⊤
RiseBy first step (s ∷ scores) = (s ≡ first) × RiseBy (first +ℤ pos step) step scores

-- by this first score and this step, both of which are small
pub record AreEven (even : EvenScores) (scores : List ℤ) : Type 0 where
  pub rise : RiseBy even.first even.step scores
  pub small_first : unsigned_abs even.first ≤ 1000000000000
  pub small_step : even.step ≤ 1000000000000

-- the pairs of n subjects
abbrev pub pairs_of : ℕ → ℕ
pairs_of zero = 0
pairs_of (suc n) = pairs_of n + n

-- the sum of the first n scores
abbrev pub least_sum : EvenScores → ℕ → ℤ
least_sum even n = (pos n *ℤ even.first) +ℤ pos (even.step * pairs_of n)
