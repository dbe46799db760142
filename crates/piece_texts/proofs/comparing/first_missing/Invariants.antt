use Rattle.piece_texts.specs.Places.{NoneBelow}
use Rattle.piece_texts.specs.Merges.{lacks_piece}
use Rattle.piece_texts.proofs.comparing.first_missing.Given as goal

abbrev pub invariant-loop-part : goal.invariant-loop-part
invariant-loop-part l = NoneBelow (lacks_piece l.pieces) l.part
