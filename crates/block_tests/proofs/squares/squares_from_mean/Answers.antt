use Rattle.std.proofs.Common.{◌∙◌, ap}
use Rattle.networks.specs.Addends.{from_mean}
use Rattle.block_tests.proofs.SquareLaws.{squares-from-mean}
use Rattle.block_tests.proofs.squares.squares_from_mean.Goals as goal

pub returns-clause-mean : goal.returns-clause-mean
returns-clause-mean c = c.from_mean.ensures.is ∙ ap (λ n. from_mean c.args.treatments n c.args.bound) c.cells_sum.ensures.is

pub returns-clause-squares : goal.returns-clause-squares
returns-clause-squares c =
    squares-from-mean c.args.treatments c.args.bound c.args.blocks.now c.from_mean.result (returns-clause-mean c) c.requires.bounded c.requires.fits c.from_mean.ensures.centre_small c.from_mean.ensures.beside_small
