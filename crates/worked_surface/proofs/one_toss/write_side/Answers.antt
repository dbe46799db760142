use Rattle.weights.proofs.Items.{one_item}
use Rattle.worked_surface.proofs.one_toss.write_side.Goals as goal

pub returns : goal.returns
returns c = one_item c.args.choice.now c.args.side c.requires
