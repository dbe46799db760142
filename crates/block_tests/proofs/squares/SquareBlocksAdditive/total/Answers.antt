use Rattle.std.proofs.Common.{◌∙◌, ap, sym}
use Rattle.weights.specs.Labellings.{labellings, number_of_labellings}
use Rattle.weights.proofs.Sums.{sum_by-one}
use Rattle.block_tests.specs.BlockNetworks.{block_at}
use Rattle.block_tests.proofs.Steps.{found-at}
use Rattle.block_tests.proofs.squares.SquareBlocksAdditive.total.Goals as goal

pub returns : goal.returns
returns c =
    c.number.ensures ∙ ap number_of_labellings (found-at c.args.self.now.blocks.items c.args.stage c.index.result.now c.requires c.index.ensures)
    ∙ sym (sum_by-one (labellings (block_at c.args.self.now.blocks.items c.args.stage)))
