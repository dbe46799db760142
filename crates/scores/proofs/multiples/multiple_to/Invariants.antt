use Rattle.std.proofs.Common.{◌≡◌, ◌≤◌, take}
use Rattle.std.specs.List.{range_with_len}
use Rattle.scores.specs.PlaceScores.{common_multiple}
use Rattle.weights.specs.declared.TheConstants.{MAX}
use Rattle.scores.proofs.multiples.multiple_to.Given as goal

abbrev pub invariant-loop-i : goal.invariant-loop-i
invariant-loop-i l = record {
  multiple : l.multiple ≡ common_multiple (take l.i (range_with_len 1 l.n));
  fits : l.multiple ≤ MAX;
}
