use Rattle.std.proofs.Common.{◌≡◌, map, take}
use Rattle.midranks.specs.declared.ties.Tie.{Tie}
use Rattle.pooled_columns.proofs.columns.sizes.Given as goal

abbrev pub invariant-loop-tie : goal.invariant-loop-tie
invariant-loop-tie l = l.sizes ≡ map (λ (t : Tie). t.count) (take l.tie-index l.ties)
