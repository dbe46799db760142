use Rattle.std.proofs.Common.{◌≡◌, ◌≤◌, take}
use Rattle.scores.specs.PlaceScores.{common_multiple}
use Rattle.weights.specs.declared.TheConstants.{MAX}
use Rattle.scores.proofs.multiples.common_multiple.Given as goal

abbrev pub invariant-loop-number : goal.invariant-loop-number
invariant-loop-number l = record {
  multiple : l.multiple ≡ common_multiple (take l.number-index l.numbers);
  fits : l.multiple ≤ MAX;
}
