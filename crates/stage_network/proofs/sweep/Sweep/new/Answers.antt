use Rattle.std.proofs.Common.{List, arith, subst}
use Rattle.std.specs.Prelude.{IfOk}
use Rattle.node_pool.specs.Nodes.{Node}
use Rattle.stage_network.specs.SweepSteps.{Course, IsSweeping}
use Rattle.stage_network.proofs.Starting.{first-laid, first-starts, first-total}
use Rattle.stage_network.proofs.sweep.Sweep.new.Goals as goal

pub from_keys-requires : goal.from_keys-requires
from_keys-requires g c =
    let n = g.S.Stages.network c.args.stages.now in
    let l = c.stages-lawful.ensures.lawful in
    record {
      starts = first-starts n c.first_key.new.key l c.first_key.ensures;
      limit = omega (arith, first-total n c.first_key.new.key l c.first_key.ensures, c.requires);
    }

pub returns-clause-sweeping : goal.returns-clause-sweeping
returns-clause-sweeping g c =
    let n = g.S.Stages.network c.args.stages.now in
    let from : List Node → Course = λ nodes. record { keep = c.args.keep; stage = 0; nodes = nodes } in
    subst (λ nodes. IfOk c.from_keys.result (IsSweeping n (g.S.Roomed.room_width c.args.stages.now) (g.S.Roomed.step_width c.args.stages.now) g.C.Count.LIMIT (from nodes)))
    (first-laid n c.first_key.new.key c.stages-lawful.ensures.lawful c.first_key.ensures) c.from_keys.ensures.sweeping
