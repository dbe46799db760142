use Rattle.std.proofs.Common.{◌≡◌}
use Rattle.pieces.specs.Parting.{dealt}
use Rattle.pieces.proofs.parting.deal.Given as goal

-- the keys before this one are dealt
abbrev pub invariant-loop-i : goal.invariant-loop-i
invariant-loop-i l = l.owners.items ≡ dealt l.parts 0 l.i
