use Rattle.std.proofs.Common.{◌≡◌, sym, ◌∙◌, ap, subst, arith}
use Rattle.weights.specs.Labellings.{number_of_labellings}
use Rattle.networks.specs.Completions.{total_weight}
use Rattle.networks.specs.Network.{IsReached}
use Rattle.label_network.specs.Meanings.{sizes_in}
use Rattle.label_network.proofs.LabelPlans.{rest_is, room_parts}
use Rattle.room_network.specs.Plans.{alone}
use Rattle.two_by_two.specs.OddsNetworks.{odds_plan}
use Rattle.two_by_two.proofs.OddsLaws.{end-rest, last-rest, last_of, own-total, same-rooms}
use Rattle.two_by_two.proofs.odds_rooms.OddsRoomsRooms.rest.Goals as goal

pub first_size-requires-clause-sizes : goal.first_size-requires-clause-sizes
first_size-requires-clause-sizes c =
    (room_parts _ _ _ c.args.self.now.labels.right c.args.stage c.args.room.now (same-rooms c.args.self.now.odds _ _ c.args.stage c.args.room.now c.requires)).sizes

pub exact_power-requires : goal.exact_power-requires
exact_power-requires c =
    let s = c.args.self.now in
    let reached = subst (λ g. IsReached (alone (odds_plan s.odds s.labels.columns.items s.labels.rows.items)) g c.args.room.now) c.if-stage-eq1.true c.requires in
    let last = last_of s.odds s.labels.columns.items s.labels.rows.items s.total s.right c.args.room.now reached in
    rw c.first_size.ensures last.power_fits

pub overflow_mul-result : goal.overflow_mul-result
overflow_mul-result c =
    let s = c.args.self.now in
    let reached = subst (λ g. IsReached (alone (odds_plan s.odds s.labels.columns.items s.labels.rows.items)) g c.args.room.now) c.if-stage-eq1.true c.requires in
    let last = last_of s.odds s.labels.columns.items s.labels.rows.items s.total s.right c.args.room.now reached in
    let ways : c.rest-ways.result ≡ number_of_labellings (sizes_in c.args.room.now) = c.rest-ways.ensures ∙ rest_is s.labels.columns.items s.labels.rows.items s.right.labelled.level c.args.stage c.args.room.now (same-rooms s.odds s.labels.columns.items s.labels.rows.items c.args.stage c.args.room.now c.requires) in
    rw (ways, c.exact_power.ensures, c.first_size.ensures) (omega (arith, last.product_fits))

pub returns-then-stage-eq0 : goal.returns-then-stage-eq0
returns-then-stage-eq0 c =
    let s = c.args.self.now in
    let reached = subst (λ g. IsReached (alone (odds_plan s.odds s.labels.columns.items s.labels.rows.items)) g c.args.room.now) c.if-stage-eq0.true c.requires in
    sym (own-total s.odds s.labels.columns.items s.labels.rows.items s.total s.right c.args.room.now reached)
    ∙ ap (λ g. total_weight (alone (odds_plan s.odds s.labels.columns.items s.labels.rows.items)) g c.args.room.now) (sym c.if-stage-eq0.true)

pub returns-then-stage-eq1 : goal.returns-then-stage-eq1
returns-then-stage-eq1 c =
    let s = c.args.self.now in
    let reached = subst (λ g. IsReached (alone (odds_plan s.odds s.labels.columns.items s.labels.rows.items)) g c.args.room.now) c.if-stage-eq1.true c.requires in
    let ways : c.rest-ways.result ≡ number_of_labellings (sizes_in c.args.room.now) = c.rest-ways.ensures ∙ rest_is s.labels.columns.items s.labels.rows.items s.right.labelled.level c.args.stage c.args.room.now (same-rooms s.odds s.labels.columns.items s.labels.rows.items c.args.stage c.args.room.now c.requires) in
    rw (ways, c.exact_power.ensures, c.first_size.ensures)
    (sym (last-rest s.odds s.labels.columns.items s.labels.rows.items s.total s.right c.args.room.now reached) ∙ ap (λ g. total_weight (alone (odds_plan s.odds s.labels.columns.items s.labels.rows.items)) g c.args.room.now) (sym c.if-stage-eq1.true))

pub returns-else-stage-eq1 : goal.returns-else-stage-eq1
returns-else-stage-eq1 c =
    let s = c.args.self.now in
    sym (end-rest s.odds s.labels.columns.items s.labels.rows.items s.total s.right c.args.stage c.args.room.now c.requires (omega (arith, c.if-stage-eq0.false, c.if-stage-eq1.false)))
