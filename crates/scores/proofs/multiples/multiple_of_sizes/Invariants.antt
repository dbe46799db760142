use Rattle.std.proofs.Common.{◌≡◌, ◌≤◌, map, take}
use Rattle.midranks.specs.declared.ties.Tie.{Tie}
use Rattle.scores.specs.PlaceScores.{common_multiple}
use Rattle.weights.specs.declared.TheConstants.{MAX}
use Rattle.scores.proofs.multiples.multiple_of_sizes.Given as goal

abbrev pub invariant-loop-tie : goal.invariant-loop-tie
invariant-loop-tie l = record {
  multiple : l.multiple ≡ common_multiple (take l.tie-index (map (λ (t : Tie). t.count) l.ties));
  fits : l.multiple ≤ MAX;
}
