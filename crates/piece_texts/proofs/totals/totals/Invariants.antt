use Rattle.std.proofs.Common.{◌≡◌}
use Rattle.piece_texts.specs.Places.{NoneBelow, piece_at}
use Rattle.piece_texts.specs.Merges.{unequal_at}
use Rattle.piece_texts.specs.TotalSteps.{Totalled}
use Rattle.piece_texts.proofs.totals.totals.Given as goal

abbrev pub invariant-loop-i : goal.invariant-loop-i
invariant-loop-i l = record {
  none : NoneBelow (unequal_at l.pieces) l.i;
  sums : Totalled l.pieces l.i l.sums;
  one : l.one ≡ piece_at l.pieces 0;
}
