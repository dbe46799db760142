use Rattle.std.proofs.Common.{◌≡◌, ◌<◌, ◌*◌, ◌∙◌, ℕ, List, [], get_or, length, ap, arith}
use Rattle.std.specs.Prelude.{slice_index}
use Rattle.weights.specs.declared.tails.Tail.TheVariants.{Two}
use Rattle.node_pool.specs.Nodes.{Node, node, weighted}
use Rattle.stage_network.specs.ArcSteps.{segment}
use Rattle.networks.specs.Completions.{extreme_weight}
use Rattle.label_network.specs.Meanings.{sizes_in}
use Rattle.fisher_test.specs.LastSteps.{weight_network}
use Rattle.fisher_test.proofs.LastColumns.{natural-lines, node-behind, node-fits, node-next, room-reached}
use Rattle.fisher_test.proofs.last_columns.LastColumns.room_sum.Goals as goal

pub choice_lines-requires-clause-reached : goal.choice_lines-requires-clause-reached
choice_lines-requires-clause-reached g c =
    let self = c.args.self.now in
    let d : Node = node [] 0 in
    room-reached self.rooms.rows.items self.rooms.columns.items self.judge self.right g.C.Count.LIMIT c.args.stage c.args.nodes.now c.requires.here c.args.start c.args.end c.requires.last d c.room.result.now (c.room.ensures.room d) c.requires.order

pub choice_lines-requires-clause-before : goal.choice_lines-requires-clause-before
choice_lines-requires-clause-before g c = omega (arith, c.requires.here.left)

pub weight_behind-behind-requires-clause-light : goal.weight_behind-behind-requires-clause-light
weight_behind-behind-requires-clause-light g c =
    let self = c.args.self.now in
    let d : Node = node [] 0 in
    let listed = c.as_slice.ensures.value ∙ c.in_ok-lines.ensures in
    (node-behind self.rooms.rows.items self.rooms.columns.items self.judge self.right g.C.Count.LIMIT c.args.stage c.args.nodes.now c.requires.here c.args.start c.args.end c.requires.last d c.room.result.now (c.room.ensures.room d) c.requires.run c.loop-i.i c.loop-i.auto.i c.loop-i-test.true c.partial.result.now (c.partial.ensures.partial d) c.as_slice.result.now listed).light

pub weight_behind-behind-requires-clause-natural : goal.weight_behind-behind-requires-clause-natural
weight_behind-behind-requires-clause-natural g c = natural-lines (slice_index c.args.self.now.rooms.columns.items c.args.stage) (sizes_in c.room.result.now) c.as_slice.result.now (c.as_slice.ensures.value ∙ c.in_ok-lines.ensures)

pub weight_behind-behind-requires-clause-one : goal.weight_behind-behind-requires-clause-one
weight_behind-behind-requires-clause-one g c =
    let self = c.args.self.now in
    let d : Node = node [] 0 in
    let listed = c.as_slice.ensures.value ∙ c.in_ok-lines.ensures in
    (node-behind self.rooms.rows.items self.rooms.columns.items self.judge self.right g.C.Count.LIMIT c.args.stage c.args.nodes.now c.requires.here c.args.start c.args.end c.requires.last d c.room.result.now (c.room.ensures.room d) c.requires.run c.loop-i.i c.loop-i.auto.i c.loop-i-test.true c.partial.result.now (c.partial.ensures.partial d) c.as_slice.result.now listed).one

pub weight_behind-behind-requires-clause-some : goal.weight_behind-behind-requires-clause-some
weight_behind-behind-requires-clause-some g c =
    let self = c.args.self.now in
    let d : Node = node [] 0 in
    let listed = c.as_slice.ensures.value ∙ c.in_ok-lines.ensures in
    (node-behind self.rooms.rows.items self.rooms.columns.items self.judge self.right g.C.Count.LIMIT c.args.stage c.args.nodes.now c.requires.here c.args.start c.args.end c.requires.last d c.room.result.now (c.room.ensures.room d) c.requires.run c.loop-i.i c.loop-i.auto.i c.loop-i-test.true c.partial.result.now (c.partial.ensures.partial d) c.as_slice.result.now listed).some

pub overflow_mul-sum : goal.overflow_mul-sum
overflow_mul-sum g c =
    let self = c.args.self.now in
    let d : Node = node [] 0 in
    let n = weight_network self.rooms.rows.items self.rooms.columns.items self.judge in
    let nodes : List Node = c.args.nodes.now.nodes in
    let i : ℕ = c.loop-i.i in
    let low : i < length nodes = omega (arith, c.loop-i-test.true, c.requires.last) in
    let listed = c.as_slice.ensures.value ∙ c.in_ok-lines.ensures in
    let told = node-behind self.rooms.rows.items self.rooms.columns.items self.judge self.right g.C.Count.LIMIT c.args.stage c.args.nodes.now c.requires.here c.args.start c.args.end c.requires.last d c.room.result.now (c.room.ensures.room d) c.requires.run i c.loop-i.auto.i c.loop-i-test.true c.partial.result.now (c.partial.ensures.partial d) c.as_slice.result.now listed in
    let product : c.value.result * c.weight_behind-behind.result ≡ (get_or nodes i d).weight * extreme_weight n Two c.args.stage (get_or nodes i d).key =
    ap (λ a. a * c.weight_behind-behind.result) (c.value.ensures.value ∙ c.weight.ensures d)
    ∙ ap (λ b. (get_or nodes i d).weight * b) (told.weighs c.weight_behind-behind.result (rw c.most_in-most.ensures at c.weight_behind-behind.ensures)) in
    omega (arith, product, node-fits n c.args.stage nodes c.args.start i d c.loop-i.auto.i low c.requires.here.meeting.light.fits)

pub overflow_add-sum : goal.overflow_add-sum
overflow_add-sum g c =
    let self = c.args.self.now in
    let d : Node = node [] 0 in
    let n = weight_network self.rooms.rows.items self.rooms.columns.items self.judge in
    let nodes : List Node = c.args.nodes.now.nodes in
    let i : ℕ = c.loop-i.i in
    let low : i < length nodes = omega (arith, c.loop-i-test.true, c.requires.last) in
    let listed = c.as_slice.ensures.value ∙ c.in_ok-lines.ensures in
    let told = node-behind self.rooms.rows.items self.rooms.columns.items self.judge self.right g.C.Count.LIMIT c.args.stage c.args.nodes.now c.requires.here c.args.start c.args.end c.requires.last d c.room.result.now (c.room.ensures.room d) c.requires.run i c.loop-i.auto.i c.loop-i-test.true c.partial.result.now (c.partial.ensures.partial d) c.as_slice.result.now listed in
    let product : c.value.result * c.weight_behind-behind.result ≡ (get_or nodes i d).weight * extreme_weight n Two c.args.stage (get_or nodes i d).key =
    ap (λ a. a * c.weight_behind-behind.result) (c.value.ensures.value ∙ c.weight.ensures d)
    ∙ ap (λ b. (get_or nodes i d).weight * b) (told.weighs c.weight_behind-behind.result (rw c.most_in-most.ensures at c.weight_behind-behind.ensures)) in
    omega (arith, product, c.loop-i.invariant, node-fits n c.args.stage nodes c.args.start i d c.loop-i.auto.i low c.requires.here.meeting.light.fits)

pub loop-i-preserved : goal.loop-i-preserved
loop-i-preserved g c =
    let self = c.args.self.now in
    let d : Node = node [] 0 in
    let n = weight_network self.rooms.rows.items self.rooms.columns.items self.judge in
    let nodes : List Node = c.args.nodes.now.nodes in
    let i : ℕ = c.loop-i.i in
    let low : i < length nodes = omega (arith, c.loop-i-test.true, c.requires.last) in
    let listed = c.as_slice.ensures.value ∙ c.in_ok-lines.ensures in
    let told = node-behind self.rooms.rows.items self.rooms.columns.items self.judge self.right g.C.Count.LIMIT c.args.stage c.args.nodes.now c.requires.here c.args.start c.args.end c.requires.last d c.room.result.now (c.room.ensures.room d) c.requires.run i c.loop-i.auto.i c.loop-i-test.true c.partial.result.now (c.partial.ensures.partial d) c.as_slice.result.now listed in
    let product : c.value.result * c.weight_behind-behind.result ≡ (get_or nodes i d).weight * extreme_weight n Two c.args.stage (get_or nodes i d).key =
    ap (λ a. a * c.weight_behind-behind.result) (c.value.ensures.value ∙ c.weight.ensures d)
    ∙ ap (λ b. (get_or nodes i d).weight * b) (told.weighs c.weight_behind-behind.result (rw c.most_in-most.ensures at c.weight_behind-behind.ensures)) in
    omega (arith, product, c.loop-i.invariant, node-next n c.args.stage nodes c.args.start i d c.loop-i.auto.i low)

pub returns : goal.returns
returns g c =
    let self = c.args.self.now in
    let n = weight_network self.rooms.rows.items self.rooms.columns.items self.judge in
    let last : c.loop-i.i ≡ c.args.end = omega (arith, c.loop-i-test.false, c.loop-i.auto.i-end, c.requires.order) in
    c.loop-i.invariant ∙ ap (λ j. weighted (extreme_weight n Two c.args.stage) (segment c.args.start j c.args.nodes.now.nodes)) last
