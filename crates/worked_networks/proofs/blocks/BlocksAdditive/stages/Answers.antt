use Rattle.worked_networks.proofs.BlockLaws.{blocks_additive}
use Rattle.worked_networks.proofs.blocks.BlocksAdditive.stages.Goals as goal

pub returns-clause-sound : goal.returns-clause-sound
returns-clause-sound c = blocks_additive
