use Rattle.piece_texts.proofs.FieldsRead.{name-behind}
use Rattle.piece_texts.proofs.fields.name_after.Goals as goal

pub returns-in-Some : goal.returns-in-Some
returns-in-Some c = name-behind c.args.words.now c.args.line.now c.in-Some.rest.now c.name.result c.in-Some.ensures c.name.ensures
