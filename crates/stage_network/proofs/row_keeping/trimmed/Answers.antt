use Rattle.std.proofs.Common.{ap, sym, ◌∙◌}
use Rattle.std.proofs.lemmas.List.{take-map}
use Rattle.count_arrays.specs.Rows.{row_nodes}
use Rattle.stage_network.proofs.row_keeping.trimmed.Goals as goal

pub returns : goal.returns
returns g c = λ lowest stride. ap (row_nodes lowest stride) (sym (take-map g.C.Count.number c.last_full.result c.args.cells.now)) ∙ c.last_full.ensures.empty lowest stride
