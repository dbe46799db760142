use Rattle.piece_texts.specs.Places.{NoneBelow}
use Rattle.piece_texts.specs.Merges.{foreign_at}
use Rattle.piece_texts.proofs.comparing.first_foreign.Given as goal

abbrev pub invariant-loop-i : goal.invariant-loop-i
invariant-loop-i l = NoneBelow (foreign_at l.pieces) l.i
