use Rattle.kendall_test.proofs.KendallSeats.{kendall_seat}
use Rattle.kendall_test.proofs.kendall_counts.KendallCounts.seat.Goals as goal

pub returns : goal.returns
returns c = kendall_seat c.args.self.now.columns.items c.args.self.now.rows.items c.args.self.now.right c.args._stage c.args._room.now c.requires
