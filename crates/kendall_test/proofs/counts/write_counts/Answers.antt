use Rattle.std.proofs.Common.{◌∙◌, ap, arith}
use Rattle.label_network.specs.Meanings.{sizes_in}
use Rattle.label_network.proofs.LabelPlans.{sizes-back}
use Rattle.label_network.proofs.Sizes.{sizes-of_pos}
use Rattle.kendall_test.proofs.counts.write_counts.Goals as goal

pub returns-clause-sizes : goal.returns-clause-sizes
returns-clause-sizes c = sizes-of_pos c.args.counts.now (omega (arith, c.requires.few)) c.write_sizes.new.front c.write_sizes.ensures

pub returns-clause-read : goal.returns-clause-read
returns-clause-read c = ap sizes_in c.write_sizes.ensures ∙ sizes-back c.args.counts.now
