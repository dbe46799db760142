use Rattle.std.proofs.Common.{map, ap, ◌∙◌}
use Rattle.score_convolution.proofs.cells.CellsTally.copy.Goals as goal

pub returns : goal.returns
returns g c = ap (map g.C.Count.number) (c.in_ok-from_slice.ensures.items ∙ c.as_slice.ensures.value)
