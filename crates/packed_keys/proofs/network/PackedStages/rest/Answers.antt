use Rattle.std.proofs.Common.{◌∙◌, ap, sym}
use Rattle.networks.specs.Completions.{total_weight}
use Rattle.networks.specs.Network.{Network}
use Rattle.packed_keys.proofs.PackedParts.{packed-total}
use Rattle.packed_keys.proofs.network.PackedStages.rest.Goals as goal

pub returns : goal.returns
returns g c =
    let n : Network = g.S.Stages.network c.self.inside.stages in
    rw (← c.self.view_is)
    (c.rest.ensures
    ∙ ap (total_weight n c.args.stage) (rw (← c.self.view_is) at c.read-here.ensures.is)
    ∙ sym (packed-total c.self.invariant c.args.stage c.args.key.now (rw (← c.self.view_is) at c.requires)))
