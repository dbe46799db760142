use Rattle.std.proofs.Common.{map}
use Rattle.std.specs.Prelude.{pos}
use Rattle.stage_network.proofs.Shifted.{row-weight}
use Rattle.stage_network.proofs.row_settling.settle_stretch.Goals as goal

pub total-weight-requires : goal.total-weight-requires
total-weight-requires g c = rw (row-weight (pos 0) (pos 0) (map g.C.Count.number c.args.cells.now)) at (c.requires.fits (pos 0) (pos 0))
