use Rattle.std.proofs.Common.{◌∙◌}
use Rattle.weights.specs.Labellings.{labellings}
use Rattle.stage_network.proofs.DistributionLines.{spread-is}
use Rattle.block_tests.specs.BlockNetworks.{arrangement_test}
use Rattle.block_tests.proofs.PageLaws.{each-one}
use Rattle.block_tests.proofs.page.walked_lines.Goals as goal

pub returns : goal.returns
returns c =
    c.in_ok-lines.ensures.items ∙ c.as_slice.ensures.lines
    ∙ spread-is (arrangement_test c.args.block.now) c.in_ok-spread.spread (each-one (labellings c.args.block.now)) c.in_ok-spread.ensures.sums
