use Rattle.std.proofs.Common.{◌≡◌}
use Rattle.std.specs.Prelude.{length}
use Rattle.node_pool.specs.Nodes.{Node}
use Rattle.stage_network.proofs.Ascending.{still_all}
use Rattle.stage_network.proofs.Laying.{laid-more, laid-all}
use Rattle.stage_network.proofs.flat_keys.laid_flat.Goals as goal

pub loop-i-preserved : goal.loop-i-preserved
loop-i-preserved c =
    let wide = still_all c.args.entries.now c.sort_entries.new.entries c.sort_entries.ensures.permutation (λ (a : Node). length a.key ≡ c.args.width) c.requires in
    laid-more c.args.width c.sort_entries.new.entries c.loop-i.i c.loop-i.keys.items _ _ c.loop-i.weights.items _ _ c.loop-i-test.true wide c.in_ok-extend_from_slice.ensures.items c.in_ok-extend_from_slice-2.ensures.items c.in_ok-push.ensures.items c.loop-i.invariant

pub returns-clause-nodes : goal.returns-clause-nodes
returns-clause-nodes c = laid-all c.args.width c.sort_entries.new.entries c.loop-i.i c.loop-i.keys.items c.loop-i.weights.items c.loop-i-test.false c.loop-i.invariant
