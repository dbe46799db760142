use Rattle.std.proofs.Common.{◌≡◌, ◌+◌, ◌++◌, drop}
use Rattle.midranks.specs.MidrankSteps.{ranks_after}
use Rattle.midranks.specs.Ties.{values_in}
use Rattle.midranks.proofs.ranks.ranks.Given as goal

abbrev pub invariant-loop-tie : goal.invariant-loop-tie
invariant-loop-tie l = record {
  counted : l.before + values_in (drop l.tie-index l.ties) ≡ values_in l.ties;
  ranked : l.ranks ++ ranks_after l.before (drop l.tie-index l.ties) ≡ ranks_after 0 l.ties;
}
