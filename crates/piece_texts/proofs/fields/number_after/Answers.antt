use Rattle.piece_texts.proofs.FieldsRead.{number-behind}
use Rattle.piece_texts.proofs.fields.number_after.Goals as goal

pub returns-in-Some : goal.returns-in-Some
returns-in-Some c = number-behind c.args.words.now c.args.least c.args.most c.args.line.now c.in-Some.rest.now c.number.result c.requires c.in-Some.ensures c.number.ensures
