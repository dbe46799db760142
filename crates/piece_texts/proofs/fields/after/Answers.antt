use Rattle.std.proofs.lemmas.Bool.Decides.{Decides-eqb}
use Rattle.std.proofs.lemmas.Slice.Eq.{strip_prefix_is}
use Rattle.piece_texts.proofs.FieldsRead.{rest-after}
use Rattle.piece_texts.proofs.fields.after.Goals as goal

pub returns : goal.returns
returns c = rest-after c.args.words.now c.args.line.now c.strip_prefix.result (strip_prefix_is Decides-eqb c.args.line.now c.args.words.now c.strip_prefix.result c.strip_prefix.ensures.cases)
