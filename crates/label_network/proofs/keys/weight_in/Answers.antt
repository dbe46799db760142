use Rattle.std.proofs.Common.{sym, ◌∙◌}
use Rattle.label_network.proofs.Sizes.{one-labelling}
use Rattle.label_network.proofs.keys.weight_in.Goals as goal

pub returns-then-column-eq1 : goal.returns-then-column-eq1
returns-then-column-eq1 c = sym (one-labelling c.args.choice.now (sym c.requires.whole ∙ c.if-column-eq1.true))
