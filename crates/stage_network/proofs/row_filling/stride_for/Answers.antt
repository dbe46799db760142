use Rattle.std.proofs.Common.{map, ◌∙◌}
use Rattle.std.specs.Prelude.{pos}
use Rattle.std.proofs.lemmas.List.{length-map}
use Rattle.stage_network.proofs.Shifted.{one-cell}
use Rattle.stage_network.proofs.row_filling.stride_for.Goals as goal

pub returns-then-cells-eq1 : goal.returns-then-cells-eq1
returns-then-cells-eq1 g c = λ lowest. one-cell lowest (pos c.args.other) (pos c.args.own) (map g.C.Count.number c.args.cells.now) (length-map c.args.cells.now g.C.Count.number ∙ c.if-cells-eq1.true)
