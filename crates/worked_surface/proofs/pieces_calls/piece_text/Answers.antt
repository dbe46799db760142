use Rattle.worked_surface.proofs.Conditions.{sums-fit}
use Rattle.worked_surface.proofs.pieces_calls.piece_text.Goals as goal

pub piece_text-requires : goal.piece_text-requires
piece_text-requires c = record {
  name = record { long = c.requires.long; digits = c.requires.digits };
  some_parts = c.requires.some_parts;
  few_parts = c.requires.few_parts;
  part = c.requires.part;
  head = record { lines = c.requires.head.0; whole = c.requires.head.1; text = c.requires.head.2 };
  few_lines = c.requires.few_lines;
  some_total = c.requires.some_total;
  total = c.requires.total;
  less = sums-fit c.args.piece.now.less c.requires.less;
  greater = sums-fit c.args.piece.now.greater c.requires.greater;
  two = sums-fit c.args.piece.now.two c.requires.two;
  asked = c.requires.tail;
}
