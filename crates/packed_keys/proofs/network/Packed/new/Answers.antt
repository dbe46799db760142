use Rattle.std.proofs.Common.{◌-◌, refl}
use Rattle.networks.specs.Network.{Network}
use Rattle.packed_keys.specs.PackedSteps.{IsPacked}
use Rattle.packed_keys.proofs.PackedParts.{packed-follows, packed-goes_on, packed-values}
use Rattle.packed_keys.proofs.network.Packed.new.Goals as goal

pub returns-clause-ends : goal.returns-clause-ends
returns-clause-ends g c =
    let n : Network = g.S.Stages.network c.args.stages in
    let w = g.S.Roomed.room_width c.args.stages in
    let i : IsPacked w c.args.bits (n.width - w) n = record { slots_are = refl; may = c.requires; long = c.stages-lawful.ensures.lawful.long } in
    packed-values i

pub returns-clause-follows : goal.returns-clause-follows
returns-clause-follows g c =
    let n : Network = g.S.Stages.network c.args.stages in
    let w = g.S.Roomed.room_width c.args.stages in
    let i : IsPacked w c.args.bits (n.width - w) n = record { slots_are = refl; may = c.requires; long = c.stages-lawful.ensures.lawful.long } in
    packed-follows i

pub returns-clause-goes_on : goal.returns-clause-goes_on
returns-clause-goes_on g c =
    let n : Network = g.S.Stages.network c.args.stages in
    let w = g.S.Roomed.room_width c.args.stages in
    let i : IsPacked w c.args.bits (n.width - w) n = record { slots_are = refl; may = c.requires; long = c.stages-lawful.ensures.lawful.long } in
    packed-goes_on i c.stages-lawful.ensures.lawful
