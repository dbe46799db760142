-- Worked rows of the definitions, by computation.
use Rattle.std.specs.Prelude.{◌≡◌, pos, [], ◌∷◌, ◌*◌, ◌^◌, Some, None, codes}
use Rattle.std.proofs.Common.{refl}
use Rattle.scores.specs.RawScores.{decimals, is_whole, raw_score}
use Rattle.sample_reader.specs.Groups.{GroupData}
use Rattle.sample_reader.specs.PooledSample.{paired_subjects}
use Rattle.shift_limits.specs.Differences.{differences, differences_between, labelled_values}
use Rattle.shift_limits.specs.LaterPairs.{later_pairs}
use Rattle.shift_limits.specs.Limits.{limits_of}

-- 1 2 3 in the first sample and 4 5 6 in the second
abbrev apart : GroupData
apart = record {
  labels = codes "x" ∷ codes "y" ∷ [];
  members = 0 ∷ 0 ∷ 0 ∷ 1 ∷ 1 ∷ 1 ∷ [];
  values = pos (1 * 10 ^ 18) ∷ pos (2 * 10 ^ 18) ∷ pos (3 * 10 ^ 18) ∷ pos (4 * 10 ^ 18) ∷ pos (5 * 10 ^ 18) ∷ pos (6 * 10 ^ 18) ∷ [];
}

apart_differences : differences apart ≡ pos 1 ∷ pos 2 ∷ pos 2 ∷ pos 3 ∷ pos 3 ∷ pos 3 ∷ pos 4 ∷ pos 4 ∷ pos 5 ∷ []
unfolding decimals is_whole raw_score paired_subjects labelled_values differences_between
apart_differences = refl

apart_limits : limits_of apart (record { above = 1; below = 5 }) ≡ record { differences = 9; places = 1; middle = pos 6; lower = Some (pos 2); upper = Some (pos 4); total = 20; missed = 4 }
unfolding decimals is_whole raw_score paired_subjects labelled_values differences_between
apart_limits = refl

apart_none : limits_of apart (record { above = 1; below = 20 }) ≡ record { differences = 9; places = 1; middle = pos 6; lower = None; upper = None; total = 20; missed = 0 }
unfolding decimals is_whole raw_score paired_subjects labelled_values differences_between
apart_none = refl

-- 1.5 in the first sample, and 2 and 4.25 in the second
abbrev few : GroupData
few = record {
  labels = codes "x" ∷ codes "y" ∷ [];
  members = 0 ∷ 1 ∷ 1 ∷ [];
  values = pos (15 * 10 ^ 17) ∷ pos (2 * 10 ^ 18) ∷ pos (425 * 10 ^ 16) ∷ [];
}

few_limits : limits_of few (record { above = 9; below = 10 }) ≡ record { differences = 2; places = 100; middle = pos 325; lower = Some (pos 50); upper = Some (pos 275); total = 3; missed = 2 }
unfolding decimals is_whole raw_score paired_subjects labelled_values differences_between
few_limits = refl

later_one : later_pairs (1 ∷ 0 ∷ 1 ∷ 0 ∷ 1 ∷ []) ≡ 3
later_one = refl
