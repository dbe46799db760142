use Rattle.std.proofs.Common.{arith}
use Rattle.worked_networks.proofs.LabelRankLaws.{one-subject, two-counts}
use Rattle.worked_networks.proofs.label_ranks.LabelRanksScalarMeasure.number.Goals as goal

pub bounds-choice-1 : goal.bounds-choice-1
bounds-choice-1 c = omega (arith, two-counts c.args.self.now.judge c.args.stage c.args._room.now c.args.choice.now c.requires.partial c.requires.move)

pub rank-requires-clause-second : goal.rank-requires-clause-second
rank-requires-clause-second c = one-subject c.args.self.now.judge c.args.stage c.args._room.now c.args.choice.now c.requires.partial c.requires.move
