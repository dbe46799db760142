use Rattle.two_by_two.proofs.OddsLaws.{odds_sound}
use Rattle.two_by_two.proofs.odds_rooms.OddsRoomsRooms.stages.Goals as goal

pub returns-clause-sound : goal.returns-clause-sound
returns-clause-sound c = odds_sound c.args.self.now.odds c.args.self.now.labels.columns.items c.args.self.now.labels.rows.items c.args.self.now.total c.args.self.now.right
