use Rattle.scores.proofs.Answering.{scored-fits, scored-list, scored-wide}
use Rattle.scores.proofs.scores.tie_scores.Goals as goal

pub returns : goal.returns
returns c = record {
  scores = scored-list c.args.kind c.args.values.now c.of_kind.result c.of_kind.ensures;
  fits = scored-fits c.args.kind c.args.values.now c.of_kind.result c.of_kind.ensures;
  too_wide = scored-wide c.args.kind c.args.values.now c.of_kind.result c.of_kind.ensures;
}
