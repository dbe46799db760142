use Rattle.label_network.proofs.Rows.{column-read}
use Rattle.sorted_tables.proofs.rooms.SortedRooms.column.Goals as goal

pub returns : goal.returns
returns c = column-read c.args.self.now.columns.items c.args.stage c.index.result.now c.requires c.index.ensures
