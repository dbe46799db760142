use Rattle.std.proofs.Common.{◌∙◌, sym, ap, map}
use Rattle.std.proofs.lemmas.List.{take_all}
use Rattle.strata_cells.specs.Strata.{size}
use Rattle.strata_cells.proofs.FirstCells.{sizes-are}
use Rattle.strata_cells.proofs.labels.sizes.Goals as goal

pub returns : goal.returns
returns c =
    sizes-are c.args.strata.now ∙ sym (ap (map size) (take_all c.loop-stratum.stratum-index c.args.strata.now c.loop-stratum-test.false)) ∙ c.loop-stratum.invariant
