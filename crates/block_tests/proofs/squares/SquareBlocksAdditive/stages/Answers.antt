use Rattle.block_tests.proofs.SquareLaws.{square_additive}
use Rattle.block_tests.proofs.squares.SquareBlocksAdditive.stages.Goals as goal

pub returns-clause-sound : goal.returns-clause-sound
returns-clause-sound c = square_additive c.args.self.now.squares c.args.self.now.treatments c.args.self.now.blocks.items c.args.self.now.judge c.args.self.now.sound c.args.self.now.squares_are
