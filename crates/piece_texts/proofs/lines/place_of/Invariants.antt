use Rattle.std.proofs.Common.{take}
use Rattle.piece_texts.specs.FieldSteps.{Without}
use Rattle.piece_texts.proofs.lines.place_of.Given as goal

abbrev pub invariant-loop-i : goal.invariant-loop-i
invariant-loop-i l = Without l.byte (take l.i l.bytes)
