use Rattle.label_network.proofs.LabelPlans.{labels_give}
use Rattle.label_network.proofs.rooms.LabelRooms.grouping_law.Goals as goal

pub returns : goal.returns
returns c = labels_give c.args.self.now.columns.items c.args.self.now.rows.items c.args.self.now.right.sound.level
