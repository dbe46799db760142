use Rattle.std.proofs.Common.{◌≡◌, map, ap, ◌∙◌, arith}
use Rattle.networks.specs.Network.{Network}
use Rattle.stage_network.specs.Ordering.{entry_node}
use Rattle.stage_network.proofs.Imaged.{image-starts, image-sum, images-wide}
use Rattle.stage_network.proofs.images.sum_by_images.Goals as goal

pub entries_in-requires : goal.entries_in-requires
entries_in-requires g c = omega (arith, c.room_width.ensures.width, c.room_width.ensures.roomed.within, c.in_ok-pool.ensures.width)

pub laid_flat-requires : goal.laid_flat-requires
laid_flat-requires g c =
    let n : Network = g.S.Stages.network c.args.stages.now in
    let q : Network = g.Q.Stages.network c.args.quick.now in
    let is : map entry_node c.as_mut_slice.result.now ≡ c.in_ok-pool.pool.nodes = ap (map entry_node) c.as_mut_slice.ensures.value ∙ c.in_ok-entries.ensures in
    rw c.width.ensures (images-wide n q c.args.stage c.args.at (g.Q.Onward.image_of c.args.quick.now c.args.stage) c.requires.goes_on c.args.keys.now c.args.weights.now c.requires.starts c.in_ok-pool.pool.nodes c.in_ok-pool.ensures.images c.stages-lawful.ensures.lawful c.as_mut_slice.result.now is)

pub sum_from_keys-requires : goal.sum_from_keys-requires
sum_from_keys-requires g c =
    let n : Network = g.S.Stages.network c.args.stages.now in
    let q : Network = g.Q.Stages.network c.args.quick.now in
    let is : map entry_node c.as_mut_slice.result.now ≡ c.in_ok-pool.pool.nodes = ap (map entry_node) c.as_mut_slice.ensures.value ∙ c.in_ok-entries.ensures in
    let laid = rw c.width.ensures at c.in_ok-flat.ensures.nodes in
    let long = rw c.width.ensures at c.in_ok-flat.ensures.long in
    rw (c.deref.ensures.value, c.deref-2.ensures.value) (image-starts n q c.args.stage c.args.at (g.Q.Onward.image_of c.args.quick.now c.args.stage) c.requires.goes_on c.args.keys.now c.args.weights.now c.requires.starts c.in_ok-pool.pool.nodes c.in_ok-pool.ensures.images c.len-apart.ensures.apart c.as_mut_slice.result.now c.laid_flat.new.entries is c.laid_flat.ensures.permutation c.in_ok-flat.flat.keys.items c.in_ok-flat.flat.weights.items laid long)

pub returns : goal.returns
returns g c =
    let n : Network = g.S.Stages.network c.args.stages.now in
    let q : Network = g.Q.Stages.network c.args.quick.now in
    let is : map entry_node c.as_mut_slice.result.now ≡ c.in_ok-pool.pool.nodes = ap (map entry_node) c.as_mut_slice.ensures.value ∙ c.in_ok-entries.ensures in
    let laid = rw c.width.ensures at c.in_ok-flat.ensures.nodes in
    rw (c.deref.ensures.value, c.deref-2.ensures.value) at c.in_ok-sum.ensures
    ∙ image-sum n q c.args.stage c.args.at (g.Q.Onward.image_of c.args.quick.now c.args.stage) c.requires.goes_on c.args.keys.now c.args.weights.now c.requires.starts c.in_ok-pool.pool.nodes c.in_ok-pool.ensures.images c.len-apart.ensures.apart c.as_mut_slice.result.now c.laid_flat.new.entries is c.laid_flat.ensures.permutation c.in_ok-flat.flat.keys.items c.in_ok-flat.flat.weights.items laid c.args.tail
