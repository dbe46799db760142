use Rattle.block_tests.proofs.PageLaws.{page_additive}
use Rattle.block_tests.proofs.page.PageBlocksAdditive.stages.Goals as goal

pub returns-clause-sound : goal.returns-clause-sound
returns-clause-sound c = page_additive c.args.self.now.treatments c.args.self.now.blocks.items c.args.self.now.judge c.args.self.now.sound
