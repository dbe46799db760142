use Rattle.block_tests.specs.BlockNetworks.{block_at, page_lines}
use Rattle.std.proofs.Common.{length}
use Rattle.block_tests.proofs.PageLaws.{first-place, some-line}
use Rattle.block_tests.proofs.page.PageBlocksAdditive.first_choice.Goals as goal

pub returns : goal.returns
returns c = first-place (length (page_lines (block_at c.args.self.now.blocks.items c.args._stage))) c.args.choice.now (some-line (block_at c.args.self.now.blocks.items c.args._stage)) c.requires.room
