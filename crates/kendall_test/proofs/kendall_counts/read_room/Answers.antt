use Rattle.std.proofs.Common.{◌∙◌, ap, arith}
use Rattle.std.specs.List.{sum}
use Rattle.label_network.proofs.ChoiceMoves.{drop-whole, take_rest}
use Rattle.kendall_test.proofs.kendall_counts.read_room.Goals as goal

pub total_of-requires : goal.total_of-requires
total_of-requires c = rw (take_rest c.args.stage c.args.columns.now) (omega (arith, drop-whole c.args.stage c.args.columns.now, c.requires.few))

pub read_code-requires-clause-few : goal.read_code-requires-clause-few
read_code-requires-clause-few c = omega (arith, c.total_of.ensures ∙ ap sum (take_rest c.args.stage c.args.columns.now), drop-whole c.args.stage c.args.columns.now, c.requires.few)
