use Rattle.std.proofs.Common.{◌∙◌, ap, length, arith}
use Rattle.block_tests.proofs.Rows.{length-cells}
use Rattle.block_tests.proofs.ranked.rank_block.Goals as goal

pub new-requires-clause-few : goal.new-requires-clause-few
new-requires-clause-few c = (let long = ap length (c.as_slice.ensures ∙ c.in_ok-cells.ensures.cells) in omega (arith, long, length-cells c.args.kind c.args.values.now, c.requires.few))
