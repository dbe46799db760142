use Rattle.std.proofs.Common.{arith}
use Rattle.two_by_two.proofs.OddsLaws.{arc_of}
use Rattle.two_by_two.proofs.odds_rooms.OddsRoomsRooms.cross.Goals as goal

pub exact_power-requires : goal.exact_power-requires
exact_power-requires c =
    let arc = arc_of c.args.self.now.odds c.args.self.now.labels.columns.items c.args.self.now.labels.rows.items c.args.self.now.total c.args.self.now.right c.args.stage c.args.room.now c.args.choice.now c.requires.reached c.requires.before c.requires.allowed in
    rw (c.odds_at.ensures, c.first_count.ensures) arc.power_fits

pub overflow_mul-result : goal.overflow_mul-result
overflow_mul-result c =
    let arc = arc_of c.args.self.now.odds c.args.self.now.labels.columns.items c.args.self.now.labels.rows.items c.args.self.now.total c.args.self.now.right c.args.stage c.args.room.now c.args.choice.now c.requires.reached c.requires.before c.requires.allowed in
    rw (c.cross-ways.ensures.weight, c.exact_power.ensures, c.odds_at.ensures, c.first_count.ensures) (omega (arith, arc.product_fits))
