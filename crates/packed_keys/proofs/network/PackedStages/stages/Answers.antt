use Rattle.packed_keys.proofs.PackedParts.{packed-lawful}
use Rattle.packed_keys.proofs.network.PackedStages.stages.Goals as goal

pub returns-clause-lawful : goal.returns-clause-lawful
returns-clause-lawful g c =
    rw (← c.self.view_is)
    (packed-lawful c.self.invariant c.stages.ensures.lawful)
