use Rattle.stratified_tests.proofs.first_cell_stages.weight.Goals as goal

pub unreachable-requires : goal.unreachable-requires
unreachable-requires c = c.in-None.ensures c.requires.fits
