use Rattle.kendall_test.proofs.KendallSeats.{kendall_choice}
use Rattle.kendall_test.proofs.kendall_counts.KendallCounts.choice_seat.Goals as goal

pub returns : goal.returns
returns c = kendall_choice c.args.self.now.columns.items c.args.self.now.rows.items c.args.self.now.right c.args._stage c.args._room.now c.requires.reached c.args._choice.now c.requires.allowed
