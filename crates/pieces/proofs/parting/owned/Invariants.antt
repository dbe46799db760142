use Rattle.pieces.proofs.Owned.{AreOwned}
use Rattle.pieces.proofs.parting.owned.Given as goal

-- of the keys before this one, those that the part owns
abbrev pub invariant-loop-i : goal.invariant-loop-i
invariant-loop-i l = AreOwned l.width l.keys l.weights l.owners l.part l.i l.flat.keys.items l.flat.weights.items
