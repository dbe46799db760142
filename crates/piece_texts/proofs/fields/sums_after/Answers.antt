use Rattle.piece_texts.proofs.FieldsRead.{sums-behind}
use Rattle.piece_texts.proofs.fields.sums_after.Goals as goal

pub returns-in-Some : goal.returns-in-Some
returns-in-Some c = sums-behind c.args.words.now c.args.line.now c.in-Some.rest.now c.sums.result c.in-Some.ensures c.sums.ensures
