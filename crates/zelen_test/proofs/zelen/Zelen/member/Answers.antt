use Rattle.strata_cells.specs.Strata.{strata_of}
use Rattle.zelen_test.proofs.ZelenTests.{member}
use Rattle.zelen_test.proofs.zelen.Zelen.member.Goals as goal

pub returns : goal.returns
returns c = member (strata_of c.args.self.now) c.made-made.ensures.fits c.args._labels.now c.requires
