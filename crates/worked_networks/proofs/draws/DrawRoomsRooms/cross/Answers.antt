use Rattle.std.proofs.Common.{◌∙◌, arith}
use Rattle.std.proofs.lemmas.Int.{ints}
use Rattle.weights.proofs.Items.{two_items}
use Rattle.worked_networks.proofs.DrawLaws.{black-weighed, black-written, blacks-few, draw, found, white-weighed, white-written, whites-few}
use Rattle.worked_networks.proofs.draws.DrawRoomsRooms.cross.Goals as goal

pub overflow_sub-next : goal.overflow_sub-next
overflow_sub-next c =
    let few = blacks-few c.args._stage c.args.room.now (found c.args._stage c.args.room.now c.requires.reached) in
    omega (arith, ints, few.0, few.1)

pub overflow_sub-next-else-choice-eq0 : goal.overflow_sub-next-else-choice-eq0
overflow_sub-next-else-choice-eq0 c =
    let few = whites-few c.args._stage c.args.room.now (found c.args._stage c.args.room.now c.requires.reached) in
    omega (arith, ints, few.0, few.1)

pub overflow_cast-result : goal.overflow_cast-result
overflow_cast-result c =
    let few = blacks-few c.args._stage c.args.room.now (found c.args._stage c.args.room.now c.requires.reached) in
    omega (arith, ints, few.0, few.1)

pub overflow_cast-result-else-choice-eq0 : goal.overflow_cast-result-else-choice-eq0
overflow_cast-result-else-choice-eq0 c =
    let few = whites-few c.args._stage c.args.room.now (found c.args._stage c.args.room.now c.requires.reached) in
    omega (arith, ints, few.0, few.1)

pub returns-then-choice-eq0-clause-next : goal.returns-then-choice-eq0-clause-next
returns-then-choice-eq0-clause-next c =
    two_items c.args.next.now _ _ c.requires.room
    ∙ black-written c.args._stage c.args.room.now c.args.choice.now (draw c.args._stage c.args.room.now c.args.choice.now c.requires.reached c.requires.before c.requires.allowed) c.if-choice-eq0.true

pub returns-else-choice-eq0-clause-next : goal.returns-else-choice-eq0-clause-next
returns-else-choice-eq0-clause-next c =
    two_items c.args.next.now _ _ c.requires.room
    ∙ white-written c.args._stage c.args.room.now c.args.choice.now (draw c.args._stage c.args.room.now c.args.choice.now c.requires.reached c.requires.before c.requires.allowed) c.if-choice-eq0.false

pub returns-then-choice-eq0-clause-weight : goal.returns-then-choice-eq0-clause-weight
returns-then-choice-eq0-clause-weight c = black-weighed c.args._stage c.args.room.now c.args.choice.now (draw c.args._stage c.args.room.now c.args.choice.now c.requires.reached c.requires.before c.requires.allowed) c.if-choice-eq0.true

pub returns-else-choice-eq0-clause-weight : goal.returns-else-choice-eq0-clause-weight
returns-else-choice-eq0-clause-weight c = white-weighed c.args._stage c.args.room.now c.args.choice.now (draw c.args._stage c.args.room.now c.args.choice.now c.requires.reached c.requires.before c.requires.allowed) c.if-choice-eq0.false
