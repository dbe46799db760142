use Rattle.std.proofs.Common.{refl}
use Rattle.weights.proofs.Items.{two_items}
use Rattle.worked_networks.proofs.blocks.BlocksAdditive.first_choice.Goals as goal

pub returns : goal.returns
returns c = rw (two_items c.args.choice.now 0 1 c.requires.room) refl
