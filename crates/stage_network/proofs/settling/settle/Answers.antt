use Rattle.std.proofs.Common.{◌+◌, ◌++◌, ap, sym, ◌∙◌, arith}
use Rattle.std.proofs.lemmas.Result.{IfOk-weaker}
use Rattle.stage_network.specs.ArcSteps.{lift}
use Rattle.networks.specs.EachTail.{sum_for}
use Rattle.stage_network.proofs.Asked.{asked-roomful}
use Rattle.stage_network.proofs.Sweeps.{closed-weighted, closed-none, staying-none}
use Rattle.stage_network.proofs.settling.settle.Goals as goal

pub settle_room-requires : goal.settle_room-requires
settle_room-requires g c = asked-roomful c.in-Open.tails (g.S.Stages.network c.args.stages.now) _ c.args.stage c.args.sums c.args.room.now c.args.nodes.now c.args.kept.now c.requires

pub returns-in-Open-clause-sum : goal.returns-in-Open-clause-sum
returns-in-Open-clause-sum g c =
    let nodes = lift c.args.room.now c.args.nodes.now.nodes in
    rw c.in-Open.is
    (IfOk-weaker c.settle_room.result _ _ (λ all told t. told t ∙ ap (λ m. (sum_for c.args.sums t).sum + m) (closed-weighted (g.S.Stages.network c.args.stages.now) c.in-Open.tails t c.args.stage nodes)) c.settle_room.ensures.sum)

pub returns-in_ok-keep_room-in-All-clause-nodes : goal.returns-in_ok-keep_room-in-All-clause-nodes
returns-in_ok-keep_room-in-All-clause-nodes g c =
    rw c.in-All.is
    (c.in_ok-keep_room-in-All.ensures.nodes ∙ ap (λ ns. c.args.kept.now.nodes ++ ns) (sym (staying-none (g.S.Stages.network c.args.stages.now) c.args.stage (lift c.args.room.now c.args.nodes.now.nodes))))

pub returns-in_ok-keep_room-in-All-clause-sum : goal.returns-in_ok-keep_room-in-All-clause-sum
returns-in_ok-keep_room-in-All-clause-sum g c t = rw c.in-All.is (omega (arith, closed-none (g.S.Stages.network c.args.stages.now) t c.args.stage (lift c.args.room.now c.args.nodes.now.nodes)))
