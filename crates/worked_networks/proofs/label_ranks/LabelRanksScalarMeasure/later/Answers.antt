use Rattle.worked_networks.proofs.LabelRankLaws.{second-few, sizes-held, two-sizes}
use Rattle.worked_networks.proofs.label_ranks.LabelRanksScalarMeasure.later.Goals as goal

pub read_sizes-requires-clause-sizes : goal.read_sizes-requires-clause-sizes
read_sizes-requires-clause-sizes c = sizes-held c.args.self.now.judge c.args.stage c.args.room.now c.requires.partial c.requires.reached

pub read_sizes-requires-clause-room : goal.read_sizes-requires-clause-room
read_sizes-requires-clause-room c = two-sizes c.args.self.now.judge c.args.stage c.args.room.now c.requires.partial c.requires.reached

pub first_ranks-requires-clause-left : goal.first_ranks-requires-clause-left
first_ranks-requires-clause-left c = rw c.read_sizes.ensures (second-few c.args.self.now.judge c.args.stage c.args.room.now c.requires.partial c.requires.reached)

pub last_ranks-requires : goal.last_ranks-requires
last_ranks-requires c = rw c.read_sizes.ensures (second-few c.args.self.now.judge c.args.stage c.args.room.now c.requires.partial c.requires.reached)
