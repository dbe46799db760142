use Rattle.sorted_tables.proofs.SortedPlans.{gathered-choice}
use Rattle.sorted_tables.proofs.rooms.SortedRooms.choice_at.Goals as goal

pub returns : goal.returns
returns c = gathered-choice c.args.self.now.columns.items c.args.self.now.rows.items c.args._stage c.args._room.now c.args._choice.now c.requires
