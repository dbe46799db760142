use Rattle.std.proofs.Common.{◌≡◌, ◌≤◌, take, false}
use Rattle.piece_texts.specs.Merges.{occurs, parts_of}
use Rattle.piece_texts.proofs.comparing.occurs_before.Given as goal

abbrev pub invariant-loop-i : goal.invariant-loop-i
invariant-loop-i l = record {
  within : l.i ≤ l.end;
  none : occurs l.part (take l.i (parts_of l.pieces)) ≡ false;
}
