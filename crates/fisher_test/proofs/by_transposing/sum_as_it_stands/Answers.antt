use Rattle.std.proofs.Common.{refl, ◌∙◌}
use Rattle.networks.proofs.Following.{extreme-is}
use Rattle.fisher_test.specs.FisherExact.{fisher_test}
use Rattle.fisher_test.proofs.by_transposing.sum_as_it_stands.Goals as goal

pub returns : goal.returns
returns c = c.in_ok-found-2.ensures.sum ∙ extreme-is (fisher_test c.args.table.now) c.args.tail _ (c.in_ok-stages.ensures c.args.tail c.requires refl)
