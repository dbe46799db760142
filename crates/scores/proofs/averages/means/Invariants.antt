use Rattle.std.proofs.Common.{◌≡◌, ◌≤◌, ◌*◌, ◌++◌, pos, map, drop, length}
use Rattle.std.specs.List.{sum}
use Rattle.weights.specs.declared.TheConstants.{MAX}
use Rattle.midranks.specs.Ties.{values_in}
use Rattle.scores.specs.ScoreSteps.{group_scores}
use Rattle.scores.proofs.averages.means.Given as goal

abbrev pub invariant-loop-tie : goal.invariant-loop-tie
invariant-loop-tie l = record {
  as_many : values_in (drop l.tie-index l.ties) ≡ length l.later;
  fits : l.multiple * sum l.later ≤ MAX;
  scored : l.scores ++ map pos (group_scores l.multiple (drop l.tie-index l.ties) l.later) ≡ map pos (group_scores l.multiple l.ties l.places);
}
