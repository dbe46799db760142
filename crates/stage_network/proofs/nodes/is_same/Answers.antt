use Rattle.std.proofs.Common.{sym, ◌∙◌}
use Rattle.std.specs.Cmp.{signed_Decides}
use Rattle.std.specs.Cmp.Lexicographic.{pointwise_decides}
use Rattle.stage_network.proofs.nodes.is_same.Goals as goal

pub returns : goal.returns
returns c e = (pointwise_decides signed_Decides c.args.one.now c.args.other.now).0 (sym c.eq.ensures ∙ e)
