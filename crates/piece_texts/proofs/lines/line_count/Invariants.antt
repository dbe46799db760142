use Rattle.std.proofs.Common.{◌≡◌, ◌≤◌, take}
use Rattle.piece_texts.specs.PieceTexts.{line_count}
use Rattle.piece_texts.proofs.lines.line_count.Given as goal

abbrev pub invariant-loop-i : goal.invariant-loop-i
invariant-loop-i l = record {
  counted : l.count ≡ line_count (take l.i l.bytes);
  few : l.count ≤ l.i;
}
