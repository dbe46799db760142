use Rattle.std.proofs.Common.{◌+◌}
use Rattle.std.proofs.lemmas.List.{take_rest}
use Rattle.piece_texts.proofs.FieldsRead.{sums-read, sums-none}
use Rattle.piece_texts.proofs.fields.sums.Goals as goal

pub returns-in-Some : goal.returns-in-Some
returns-in-Some c = sums-read c.args.text.now c.in-Some.space c.both.result c.in-Some.ensures (rw (take_rest c.args.text.now (c.in-Some.space + 1)) at c.both.ensures)

pub returns-in-None : goal.returns-in-None
returns-in-None c s fits e = sums-none c.args.text.now s c.in-None.ensures e
