use Rattle.std.proofs.Common.{ℕ, subst}
use Rattle.node_pool.specs.Nodes.{keys}
use Rattle.networks.specs.Network.{Network}
use Rattle.pieces.specs.Cuts.{PartsAddUp, counted_nodes}
use Rattle.pieces.proofs.CutSums.{cut-parts}
use Rattle.pieces.proofs.cutting.cut_by_rooms.Goals as goal

pub returns-clause-parts : goal.returns-clause-parts
returns-clause-parts g c =
    let n : Network = g.S.Stages.network c.args.stages.now in
    let cut = c.in_ok-cut.cut in
    subst (λ (at : ℕ). PartsAddUp n c.args.tail at cut.closed (keys (counted_nodes n cut))) c.in_ok-cut.ensures.at (cut-parts n c.args.tail cut.at cut.closed cut.keys.items cut.weights.items c.stages-lawful.ensures.lawful c.in_ok-cut.ensures.cut)
