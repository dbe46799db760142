use Rattle.std.proofs.Common.{length, ◌+◌, ◌≤◌}
use Rattle.piece_texts.specs.ReaderSteps.{reading}
use Rattle.piece_texts.proofs.LineRuns.{IsRead}
use Rattle.piece_texts.proofs.reading.read_pieces.Given as goal

abbrev pub invariant-loop-line : goal.invariant-loop-line
invariant-loop-line l = record {
  read : IsRead l.bytes l.rest l.number (reading l.reader);
  few : l.number + length l.rest ≤ length l.bytes + 1;
}

abbrev pub decreases-loop-line : goal.decreases-loop-line
decreases-loop-line l = length l.rest
