use Rattle.piece_texts.specs.Places.{NoneBelow}
use Rattle.piece_texts.specs.Merges.{doubled_at}
use Rattle.piece_texts.proofs.comparing.first_doubled.Given as goal

abbrev pub invariant-loop-i : goal.invariant-loop-i
invariant-loop-i l = NoneBelow (doubled_at l.pieces) l.i
