use Rattle.std.proofs.Common.{◌∙◌, ap, sym}
use Rattle.weights.specs.Labellings.{number_of_labellings}
use Rattle.block_tests.proofs.PageLaws.{page-total}
use Rattle.block_tests.proofs.Steps.{found-at}
use Rattle.block_tests.proofs.page.PageBlocksAdditive.total.Goals as goal

pub returns : goal.returns
returns c =
    c.number.ensures ∙ ap number_of_labellings (c.behind-self.view_is ∙ found-at c.args.self.now.blocks.items c.args.stage c.index.result.now c.requires c.index.ensures)
    ∙ sym (page-total c.args.self.now.blocks.items c.args.self.now.judge c.args.stage)
