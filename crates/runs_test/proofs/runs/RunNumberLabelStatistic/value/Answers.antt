use Rattle.std.proofs.Common.{◌<◌}
use Rattle.std.proofs.lemmas.List.Elements.{All-from_recursion}
use Rattle.weights.proofs.Members.{labelling_from}
use Rattle.runs_test.specs.Runs.{row_counts}
use Rattle.runs_test.proofs.runs.RunNumberLabelStatistic.value.Goals as goal

pub runs_in-requires : goal.runs_in-requires
runs_in-requires c = All-from_recursion (λ x. x < 2) c.args.labels.now (labelling_from (row_counts c.args.self.now) c.args.labels.now c.requires).over.below
