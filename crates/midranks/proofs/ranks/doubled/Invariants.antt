use Rattle.std.proofs.Common.{◌≡◌, take}
use Rattle.midranks.specs.Midranks.{midranks_among}
use Rattle.midranks.proofs.ranks.doubled.Given as goal

abbrev pub invariant-loop-value : goal.invariant-loop-value
invariant-loop-value l = l.doubled ≡ midranks_among l.values (take l.value-index l.values)
