use Rattle.std.proofs.Common.{refl, ◌∙◌}
use Rattle.networks.proofs.Following.{extreme-is}
use Rattle.stage_network.proofs.prepared.Prepared.quick_sum.Goals as goal

pub returns : goal.returns
returns g c asked = c.in_ok-found.ensures.sum ∙ extreme-is (g.Self.Plain.test c.args.self.now) c.args.tail (g.Self.Built.Stages.network c.in_ok-stages.stages) (c.in_ok-stages.ensures c.args.tail (c.requires asked) refl)
