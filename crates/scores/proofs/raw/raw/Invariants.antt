use Rattle.std.proofs.Common.{◌≡◌, map, take}
use Rattle.midranks.specs.declared.ties.Tie.{Tie}
use Rattle.scores.specs.RawScores.{decimals, raw_score}
use Rattle.scores.proofs.raw.raw.Given as goal

abbrev pub invariant-loop-tie : goal.invariant-loop-tie
invariant-loop-tie l = l.scores ≡ map (λ (t : Tie). raw_score (decimals l.values) t.value) (take l.tie-index l.tie-items)
