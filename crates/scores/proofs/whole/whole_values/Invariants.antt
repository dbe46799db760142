use Rattle.std.proofs.Common.{◌≡◌, map, take}
use Rattle.scores.specs.RawScores.{decimals, raw_score}
use Rattle.scores.proofs.whole.whole_values.Given as goal

abbrev pub invariant-loop-value : goal.invariant-loop-value
invariant-loop-value l = l.list ≡ map (raw_score (decimals l.values)) (take l.value-index l.values)
