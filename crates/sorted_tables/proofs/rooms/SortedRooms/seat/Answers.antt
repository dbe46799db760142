use Rattle.sorted_tables.proofs.SortedPlans.{room_seat}
use Rattle.sorted_tables.proofs.rooms.SortedRooms.seat.Goals as goal

pub returns : goal.returns
returns c = room_seat c.args.self.now.columns.items c.args.self.now.rows.items c.args.self.now.binomials.width c.args.self.now.right c.args._stage c.args._room.now c.requires
