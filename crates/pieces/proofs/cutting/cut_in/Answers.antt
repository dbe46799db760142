use Rattle.std.proofs.Common.{◌≡◌, ℕ, List, length, map, ap, sym, subst, ◌∙◌, refl}
use Rattle.std.specs.List.{AllByRecursion}
use Rattle.node_pool.specs.Nodes.{Node}
use Rattle.networks.specs.declared.tail_sums.TailSum.{TailSum}
use Rattle.networks.specs.Network.{Network, IsReached}
use Rattle.stage_network.proofs.Conserved.{all_weaker}
use Rattle.stage_network.specs.declared.ordering.Entry.{Entry}
use Rattle.stage_network.specs.Ordering.{entry_node}
use Rattle.stage_network.proofs.Ascending.{AllInRooms}
use Rattle.pieces.proofs.FoundKeys.{found-cut}
use Rattle.pieces.proofs.Finding.{found-of, closed-of}
use Rattle.pieces.proofs.cutting.cut_in.Goals as goal

pub laid_flat-requires : goal.laid_flat-requires
laid_flat-requires g c =
    let n : Network = g.S.Stages.network c.args.stages.now in
    let s = c.in_ok-sweep.ensures.sweeping in
    let nodes : List Node = c.in_ok-sweep.sweep.nodes.nodes in
    let found = found-of n c.only.result c.args.tail c.only.ensures.asked c.only.ensures.alone _ _ _ c.in_ok-sweep.sweep s c.args.at c.requires.within c.in_ok-sweep.ensures.stage in
    let wide : AllByRecursion (λ (a : Node). length a.key ≡ n.width) nodes = all_weaker (λ (a : Node). IsReached n c.args.at a.key) (λ (a : Node). length a.key ≡ n.width) (λ a r. s.lawful.long c.args.at a.key r) nodes found.reached in
    rw (c.as_mut_slice.ensures.value, c.in_ok-entries.ensures.nodes, c.width.ensures) wide

pub returns-clause-cut : goal.returns-clause-cut
returns-clause-cut g c =
    let n : Network = g.S.Stages.network c.args.stages.now in
    let s = c.in_ok-sweep.ensures.sweeping in
    let nodes : List Node = c.in_ok-sweep.sweep.nodes.nodes in
    let found = found-of n c.only.result c.args.tail c.only.ensures.asked c.only.ensures.alone _ _ _ c.in_ok-sweep.sweep s c.args.at c.requires.within c.in_ok-sweep.ensures.stage in
    let closed = closed-of n c.only.result c.args.tail c.only.ensures.asked c.only.ensures.alone _ _ _ c.in_ok-sweep.sweep s c.args.at c.requires.within c.in_ok-sweep.ensures.stage in
    let entries : List Entry = c.as_mut_slice.result.now in
    let width : ℕ = c.in_ok-sweep.sweep.nodes.room_width in
    let is : map entry_node entries ≡ nodes = ap (map entry_node) c.as_mut_slice.ensures.value ∙ c.in_ok-entries.ensures.nodes in
    let rooms : AllInRooms width entries = subst (AllInRooms width) (sym c.as_mut_slice.ensures.value) c.in_ok-entries.ensures.rooms in
    found-cut n s.lawful c.args.tail c.args.at width nodes found entries c.laid_flat.new.entries is c.laid_flat.ensures.permutation rooms c.laid_flat.ensures.sorted _ _ _ _ refl (ap (λ (sum : TailSum). sum.sum) c.of.ensures ∙ closed) (rw c.width.ensures at c.in_ok-flat.ensures.nodes) (rw c.width.ensures at c.in_ok-flat.ensures.long)
